use Rattle.lv_cert.proofs.AgreeLemmas.{one_certificate}
use Rattle.lv_cert.proofs.laws.certificate_is_one.Goals as goal

pub returns : goal.returns
returns c = one_certificate
