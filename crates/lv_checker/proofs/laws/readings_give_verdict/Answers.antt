use Rattle.lv_checker.proofs.VerdictLemmas.{verdict_alike}
use Rattle.lv_checker.proofs.laws.readings_give_verdict.Goals as goal

pub returns : goal.returns
returns c = verdict_alike
