-- one that isn't false was found, or all are false
use Rattle.std.proofs.Common.{unwrap_or, Option, ap, ◌∙◌}
use Rattle.lv_base.specs.declared.ids.Lit.{Lit}
use Rattle.lv_ltms.proofs.PickLemmas.{near_picked}
use Rattle.lv_ltms.proofs.propagation.pick_near.Goals as goal

pub returns : goal.returns
returns c = near_picked c.args.lits.now c.args.marks.now c.args.first c.unwrap_or.result c.requires (c.unwrap_or.ensures ∙ ap (λ (o : Option Lit). unwrap_or o c.args.first) c.find_open.ensures)
