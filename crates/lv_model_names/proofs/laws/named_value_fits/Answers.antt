use Rattle.lv_model_names.proofs.ScopeLemmas.{value_fits}
use Rattle.lv_model_names.proofs.laws.named_value_fits.Goals as goal

pub returns : goal.returns
returns c = value_fits
