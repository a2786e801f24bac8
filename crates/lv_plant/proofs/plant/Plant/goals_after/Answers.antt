-- goals over the plant speak of its variables
use Rattle.std.proofs.Common.{◌≡◌, sym, subst, ap, length, All, List}
use Rattle.lv_base.specs.declared.ids.ValId.{ValId}
use Rattle.lv_model.specs.declared.plant.Plant.{Plant}
use Rattle.lv_session.specs.lv_session_request.Goals.{IsGoalIn}
use Rattle.lv_plant.specs.Findings.{GoalReads}
use Rattle.lv_plant.specs.Standing.{Standing}
use Rattle.lv_plant.proofs.PlantLemmas.{goals_read}
use Rattle.lv_plant.proofs.plant.Plant.goals_after.Goals as goal

pub goals_told-requires : goal.goals_told-requires
goals_told-requires c =
    let plant : c.self.inside.session.plant ≡ c.args.self.now.session.plant = ap (λ (s : Standing). s.session.plant) c.self.view_is in
    subst (λ (b : List ValId). All (GoalReads (length b)) c.goals.result.now) (sym c.as_slice.ensures)
    (goals_read c.args.self.now.session.plant c.args.step.now.after c.goals.result.now c.requires.after (subst (λ (p : Plant). All (IsGoalIn p) c.goals.result.now) plant c.goals.ensures.fit))
