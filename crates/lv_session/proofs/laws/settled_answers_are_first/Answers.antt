use Rattle.lv_session.proofs.TrueAnswers.{reply_true, transcript_true}
use Rattle.lv_session.proofs.laws.settled_answers_are_first.Goals as goal

pub returns : goal.returns
returns c = record {
  of_line = λ plant state line. reply_true plant state line;
  of_session = λ plant session text is. transcript_true plant is;
}
