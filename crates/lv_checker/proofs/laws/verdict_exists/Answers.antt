use Rattle.lv_checker.proofs.ReadingLemmas.{exists}
use Rattle.lv_checker.proofs.laws.verdict_exists.Goals as goal

pub returns : goal.returns
returns c = exists
