use Rattle.lv_checker.proofs.FitsDrafts.{counts_kept}
use Rattle.lv_checker.proofs.laws.counts_are_kept.Goals as goal

pub returns : goal.returns
returns c = counts_kept
