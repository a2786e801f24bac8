-- the lines show what they list
use Rattle.lv_cert_laws.proofs.DiagnosisWhole.{diagnosis_answers}
use Rattle.lv_cert_laws.proofs.valid_diagnosis_proves_its_answer.Goals as goal

pub returns : goal.returns
returns c = diagnosis_answers
