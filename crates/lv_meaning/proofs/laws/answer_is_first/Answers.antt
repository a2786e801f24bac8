-- the front of the possible candidates in order
use Rattle.lv_meaning.proofs.Answering.{answer_law}
use Rattle.lv_meaning.proofs.laws.answer_is_first.Goals as goal

pub returns : goal.returns
returns c = answer_law
