-- another one that isn't false was found, or all others are false
use Rattle.std.proofs.Common.{unwrap_or, Option, sym, ap, ◌∙◌}
use Rattle.lv_base.specs.declared.ids.Lit.{Lit}
use Rattle.lv_ltms.proofs.PickLemmas.{picks_open, picks_other}
use Rattle.lv_ltms.proofs.propagation.pick_far.Goals as goal

pub returns-in-Some : goal.returns-in-Some
returns-in-Some c = picks_open c.args.lits.now c.args.marks.now c.args.near c.in-Some.lit c.requires (sym c.find_open_but.ensures ∙ c.in-Some.is)

pub returns : goal.returns
returns c =
    picks_other c.args.lits.now c.args.marks.now c.args.near c.unwrap_or.result c.requires (sym c.find_open_but.ensures ∙ c.in_default.is)
    (c.unwrap_or.ensures ∙ ap (λ (o : Option Lit). unwrap_or o c.args.near) c.other_than.ensures)
