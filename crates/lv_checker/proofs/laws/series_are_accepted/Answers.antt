use Rattle.lv_checker.proofs.SeriesLemmas.{series_accepted}
use Rattle.lv_checker.proofs.laws.series_are_accepted.Goals as goal

pub returns : goal.returns
returns c = series_accepted
