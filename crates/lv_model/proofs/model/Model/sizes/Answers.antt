-- there is one size for each variable, and none is large
use Rattle.std.proofs.Common.{◌∙◌, ap}
use Rattle.lv_model.specs.Lists.{variable_count}
use Rattle.lv_model.proofs.Sizes.{length-sizes, few-sizes}
use Rattle.lv_model.proofs.model.Model.sizes.Goals as goal

pub returns-clause-whole : goal.returns-clause-whole
returns-clause-whole c =
    rw c.in_ok-out.ensures (length-sizes c.plant-plant.result.now ∙ ap variable_count c.plant-plant.ensures.plant)

pub returns-clause-few : goal.returns-clause-few
returns-clause-few c = rw c.in_ok-out.ensures (few-sizes c.plant-plant.result.now c.plant-plant.ensures.well_formed)
