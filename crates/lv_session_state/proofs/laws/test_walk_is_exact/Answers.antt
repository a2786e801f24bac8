use Rattle.lv_session_state.proofs.TestWalks.{test_exact, test_found, test_none, test_ample}
use Rattle.lv_session_state.proofs.laws.test_walk_is_exact.Goals as goal

pub returns : goal.returns
returns c = record {
  exact = λ plant aim x budget settled. test_exact plant aim x budget settled;
  found = λ plant aim x budget r settled there. test_found plant aim x budget r settled there;
  none = λ plant aim x budget settled nothing. test_none plant aim x budget settled nothing;
  ample = λ plant aim x budget few. test_ample plant aim x budget few;
}
