-- the value is one that the variable has, so its literal is of a boolean
use Rattle.std.proofs.Common.{[], ◌∷◌, true}
use Rattle.std.proofs.lemmas.Result.{IfOk-weaker}
use Rattle.lv_meaning.specs.Facts.{agrees}
use Rattle.lv_system.proofs.LiteralLemmas.{now_in_range}
use Rattle.lv_reconf.proofs.NarrowingLemmas.{value_has_bool, observed_says, adds_narrow}
use Rattle.lv_reconf.proofs.clauses.observe_one.Goals as goal

pub require-requires : goal.require-requires
require-requires c =
    rw (c.requires.bools, c.has_value.ensures)
    (now_in_range c.args.compiled.now true c.args.o.var.0 c.args.o.val.0 (value_has_bool c.args.compiled.now c.args.o.var.0 c.args.o.val.0 c.requires.fits.value))

pub returns : goal.returns
returns c =
    IfOk-weaker c.require.result _ _
    (λ x adds.
    adds_narrow c.args.compiled.now c.args.solver.now.set c.require.new.solver.set ((c.has_value.result ∷ []) ∷ []) (λ a b ms. agrees a c.args.o) adds
    (observed_says c.args.compiled.now c.args.o c.has_value.result (value_has_bool c.args.compiled.now c.args.o.var.0 c.args.o.val.0 c.requires.fits.value) c.has_value.ensures))
    c.require.ensures
