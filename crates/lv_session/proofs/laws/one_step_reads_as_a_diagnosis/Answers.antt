use Rattle.lv_session.proofs.OneStep.{reads_as_a_diagnosis}
use Rattle.lv_session.proofs.laws.one_step_reads_as_a_diagnosis.Goals as goal

pub returns : goal.returns
returns c = λ plant state repeats. reads_as_a_diagnosis plant state repeats
