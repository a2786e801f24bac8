use Rattle.lv_model.specs.Ranges.{plant_ranges}
use Rattle.lv_model_names.proofs.ScopeLemmas.{below_size}
use Rattle.lv_model_names.proofs.laws.value_is_below.Goals as goal

pub returns : goal.returns
returns c = λ plant x v has. below_size (plant_ranges plant) x v has
