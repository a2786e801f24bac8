use Rattle.lv_probe.proofs.BestLemmas.{best_found, none_best}
use Rattle.lv_probe.proofs.laws.best_is_least.Goals as goal

pub returns : goal.returns
returns c = record { found = best_found; none = none_best }
