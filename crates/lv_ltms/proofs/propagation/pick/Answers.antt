-- it has no literal, or two are picked
use Rattle.std.proofs.Common.{false, arith}
use Rattle.std.proofs.lemmas.List.Elements.{Contains-get_or}
use Rattle.lv_base.specs.declared.ids.Lit.{Lit}
use Rattle.lv_ltms.proofs.PickLemmas.{empty_of}
use Rattle.lv_ltms.proofs.propagation.pick.Goals as goal

abbrev blank : Lit
blank = record { var = record { 0 = 0 }; sign = false }

pub returns-then-lits-eq0-clause-none : goal.returns-then-lits-eq0-clause-none
returns-then-lits-eq0-clause-none c = empty_of c.args.lits.now c.if-lits-eq0.true

pub pick_near-near-requires : goal.pick_near-near-requires
pick_near-near-requires c = Contains-get_or c.args.lits.now 0 blank (omega (arith, c.if-lits-eq0.false))
