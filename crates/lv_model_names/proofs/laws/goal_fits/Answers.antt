use Rattle.lv_model.specs.Ranges.{plant_ranges}
use Rattle.lv_formula_text.proofs.FittingLemmas.{resolved_fits}
use Rattle.lv_model_names.specs.Names.{plant_names}
use Rattle.lv_model_names.proofs.ScopeLemmas.{scope_fits}
use Rattle.lv_model_names.proofs.laws.goal_fits.Goals as goal

pub returns : goal.returns
returns c = λ plant phrase f is. resolved_fits (plant_names plant) (plant_ranges plant) (scope_fits plant) phrase f is
