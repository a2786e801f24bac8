-- its literal is one of the booleans
use Rattle.std.proofs.Common.{true, ap}
use Rattle.std.proofs.lemmas.Result.{IfOk-weaker}
use Rattle.lv_base.specs.declared.ids.Lit.{Lit}
use Rattle.lv_compile.specs.Booleans.{bool_count}
use Rattle.lv_system.proofs.LiteralLemmas.{now_in_range}
use Rattle.lv_reconf.proofs.AssumingLemmas.{value_assumed}
use Rattle.lv_reconf.proofs.assumptions.assume_value.Goals as goal

pub assume-requires : goal.assume-requires
assume-requires c = ap (λ (l : Lit). l.sign) c.has_value.ensures

pub returns : goal.returns
returns c =
    IfOk-weaker c.assume.result _ _
    (λ x more. value_assumed c.args.compiled.now c.args.lits.now.items c.assume.new.lits.items c.args.var.0 c.args.val.0 c.has_value.result c.requires.there c.has_value.ensures more)
    (c.assume.ensures.says (bool_count c.args.compiled.now) c.requires.assumed
    (rw c.has_value.ensures (now_in_range c.args.compiled.now true c.args.var.0 c.args.val.0 c.requires.there)))
