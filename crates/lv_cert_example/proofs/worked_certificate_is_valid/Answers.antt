use Rattle.lv_cert_example.proofs.Worked.{worked}
use Rattle.lv_cert_example.proofs.worked_certificate_is_valid.Goals as goal

pub returns : goal.returns
returns c = worked
