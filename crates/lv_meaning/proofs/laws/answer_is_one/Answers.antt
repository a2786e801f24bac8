-- two lists in order with the same members are one
use Rattle.lv_meaning.proofs.OneAnswer.{one_answer}
use Rattle.lv_meaning.proofs.laws.answer_is_one.Goals as goal

pub returns : goal.returns
returns c = one_answer
