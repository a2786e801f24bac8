use Rattle.lv_text.specs.Lines.{lines_of}
use Rattle.lv_session_state.specs.State.{start}
use Rattle.lv_session.proofs.Transcripts.{some_transcript, one_transcript, front_of_transcript}
use Rattle.lv_session.proofs.laws.transcript_is_one.Goals as goal

pub returns : goal.returns
returns c =
    record {
      some = λ plant session none. some_transcript plant (start plant) (lines_of session) none;
      one = λ plant session text none is. one_transcript plant (start plant) (lines_of session) text none is;
      front = λ plant session before after none front. front_of_transcript plant (start plant) (lines_of session) front.answered front.whole before after none front.is_transcript front.front;
    }
