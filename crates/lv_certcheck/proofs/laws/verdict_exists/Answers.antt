use Rattle.lv_certcheck.proofs.ProvingLemmas.{exists}
use Rattle.lv_certcheck.proofs.laws.verdict_exists.Goals as goal

pub returns : goal.returns
returns c = exists
