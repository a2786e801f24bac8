use Rattle.lv_cert_meaning.proofs.LogLemmas.{is_the_logs}
use Rattle.lv_cert_meaning.proofs.laws.following_is_the_logs.Goals as goal

pub returns : goal.returns
returns c = is_the_logs
