use Rattle.lv_session_state.proofs.TestReadings.{tests_tell, tell_tests}
use Rattle.lv_session_state.proofs.laws.tests_read.Goals as goal

pub returns : goal.returns
returns c = record {
  tell = λ plant aim x u there h. tests_tell plant aim x u there h;
  suffice = λ plant aim x u t. tell_tests plant aim x u t;
}
