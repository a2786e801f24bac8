use Rattle.lv_session.proofs.StepLaws.{fair_request}
use Rattle.lv_session.proofs.laws.no_query_survives_a_change.Goals as goal

pub returns : goal.returns
returns c = λ plant state request. (fair_request plant state request).carried
