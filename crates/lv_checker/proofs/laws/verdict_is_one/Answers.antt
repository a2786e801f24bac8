use Rattle.lv_checker.proofs.VerdictLemmas.{verdict_one}
use Rattle.lv_checker.proofs.laws.verdict_is_one.Goals as goal

pub returns : goal.returns
returns c = verdict_one
