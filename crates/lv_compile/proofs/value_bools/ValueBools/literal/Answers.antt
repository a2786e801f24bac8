-- the variable is there, and its booleans have numbers in range
use Rattle.std.proofs.Common.{ap, arith}
use Rattle.lv_compile.specs.Booleans.{literal}
use Rattle.lv_compile.proofs.BooleanLemmas.{start_there, number_fits, number_is}
use Rattle.lv_compile.proofs.value_bools.ValueBools.literal.Goals as goal

pub index-requires : goal.index-requires
index-requires c =
    let there = start_there c.args.self.now c.self.inside.first c.self.inside.sizes.items c.self.inside.starts.items c.self.view_is c.self.invariant c.args.var c.args.value c.requires in
    grind (arith, there)

pub overflow_add-result : goal.overflow_add-result
overflow_add-result c =
    let fits = number_fits c.args.self.now c.self.inside.first c.self.inside.sizes.items c.self.inside.starts.items c.self.view_is c.self.invariant c.args.var c.args.value c.requires c.index.result.now c.index.ensures in
    omega (arith, fits)

pub returns : goal.returns
returns c =
    ap (λ n. literal n c.args.sign)
    (number_is c.args.self.now c.self.inside.first c.self.inside.sizes.items c.self.inside.starts.items c.self.view_is c.self.invariant c.args.var c.args.value c.requires c.index.result.now c.index.ensures)
