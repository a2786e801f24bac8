use Rattle.lv_certcheck.proofs.ProvingLemmas.{is_one}
use Rattle.lv_certcheck.proofs.laws.verdict_is_one.Goals as goal

pub returns : goal.returns
returns c = is_one
