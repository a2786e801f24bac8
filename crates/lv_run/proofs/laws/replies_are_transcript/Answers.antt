-- The law, by its lemma.
use Rattle.lv_run.proofs.Tallying.{are_transcript}
use Rattle.lv_run.proofs.laws.replies_are_transcript.Goals as goal

pub returns : goal.returns
returns c = are_transcript
