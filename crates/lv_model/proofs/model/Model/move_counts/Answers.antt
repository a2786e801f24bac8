-- a well-formed plant has few moves
use Rattle.lv_model.proofs.Sizes.{few-move_counts}
use Rattle.lv_model.proofs.model.Model.move_counts.Goals as goal

pub returns-clause-few : goal.returns-clause-few
returns-clause-few c = rw c.in_ok-out.ensures (few-move_counts c.plant-plant.result.now c.plant-plant.ensures.well_formed)
