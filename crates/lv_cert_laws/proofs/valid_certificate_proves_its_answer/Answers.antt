-- the two halves
use Rattle.lv_cert_laws.proofs.DiagnosisWhole.{diagnosis_answers}
use Rattle.lv_cert_laws.proofs.RecoveryWhole.{recovery_answers}
use Rattle.lv_cert_laws.proofs.valid_certificate_proves_its_answer.Goals as goal

pub returns : goal.returns
returns c = record { diagnosis = diagnosis_answers; recovery = recovery_answers }
