-- the controls of a well-formed plant are variables of it
use Rattle.std.proofs.Common.{All, subst}
use Rattle.lv_model.specs.declared.plant.Plant.{Plant}
use Rattle.lv_model.specs.Lists.{controls, variable_count, IsVariable}
use Rattle.lv_model.proofs.Controls.{controls-in_range}
use Rattle.lv_model.proofs.model.Model.controls.Goals as goal

pub returns-clause-in_range : goal.returns-clause-in_range
returns-clause-in_range c =
    rw c.in_ok-out.ensures
    (subst (λ (p : Plant). All (IsVariable (variable_count p)) (controls c.plant-plant.result.now)) c.plant-plant.ensures.plant
    (controls-in_range c.plant-plant.result.now c.plant-plant.ensures.well_formed))
