use Rattle.lv_formula_text.proofs.FittingLemmas.{resolved_fits}
use Rattle.lv_formula_text.proofs.laws.resolved_fits.Goals as goal

pub returns : goal.returns
returns c = resolved_fits
