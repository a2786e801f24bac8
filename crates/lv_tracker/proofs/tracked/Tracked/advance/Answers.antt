-- the states that cheap candidates with moves lead to are cheap and have modes
use Rattle.std.proofs.Common.{length, All, sym, ◌∙◌, ap, subst}
use Rattle.std.proofs.lemmas.Result.{IfOk-weaker}
use Rattle.lv_tracker.specs.Distinct.{first_of_each}
use Rattle.lv_tracker.specs.Tracked.{IsWithinCost, HasModes}
use Rattle.lv_tracker.proofs.ListLemmas.{targets_are_cheap, targets_have_modes}
use Rattle.lv_tracker.proofs.tracked.Tracked.advance.Goals as goal

pub distinct-requires-clause-costs : goal.distinct-requires-clause-costs
distinct-requires-clause-costs c = subst (All IsWithinCost) (sym c.in_ok-target_states.ensures) (targets_are_cheap c.args.model.now c.args.listed.now c.requires.costs)

pub returns-clause-modes : goal.returns-clause-modes
returns-clause-modes c =
    IfOk-weaker c.distinct.result _ _
    (λ tracked h. subst (All (HasModes (length c.args.model.now.parts))) (sym (h ∙ ap first_of_each c.in_ok-target_states.ensures)) (targets_have_modes c.args.model.now c.args.listed.now c.requires.moves))
    c.distinct.ensures
