use Rattle.lv_session.proofs.StepLaws.{certified_settled, certified_stays}
use Rattle.lv_session.proofs.laws.certificate_changes_nothing.Goals as goal

pub returns : goal.returns
returns c = record {
  settled = λ plant state line. certified_settled plant state line;
  stays = λ plant state line. certified_stays plant state line;
}
