use Rattle.lv_session.proofs.StepLaws.{sum_walked, sum_recovered, sum_tested, sum_traced}
use Rattle.lv_session.proofs.laws.more_is_the_sum.Goals as goal

pub returns : goal.returns
returns c = record {
  of_diagnosis = λ plant state sum n. sum_walked plant state sum n state.query;
  of_recovery = λ plant state sum n. sum_recovered plant state sum n state.query;
  of_test = λ plant state x sum n. sum_tested plant state x sum n state.query;
  of_window = λ plant state steps sum n. sum_traced plant state steps sum n state.query;
}
