use Rattle.lv_checker.proofs.OneLemmas.{one_is_kept}
use Rattle.lv_checker.proofs.laws.version_one_is_kept.Goals as goal

pub returns : goal.returns
returns c = one_is_kept
