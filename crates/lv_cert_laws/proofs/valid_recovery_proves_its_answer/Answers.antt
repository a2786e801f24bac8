-- the lines show what they give
use Rattle.lv_cert_laws.proofs.RecoveryWhole.{recovery_answers}
use Rattle.lv_cert_laws.proofs.valid_recovery_proves_its_answer.Goals as goal

pub returns : goal.returns
returns c = recovery_answers
