use Rattle.lv_text.proofs.NumberFacts.{printed_law}
use Rattle.lv_text.proofs.laws.printed_number_is_itself.Goals as goal

pub returns : goal.returns
returns c = printed_law
