use Rattle.lv_cert.proofs.AgreeLemmas.{fault_or_certificate}
use Rattle.lv_cert.proofs.laws.fault_is_no_certificate.Goals as goal

pub returns : goal.returns
returns c = fault_or_certificate
