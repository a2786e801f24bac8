use Rattle.lv_text.proofs.ReadBack.{printed_again}
use Rattle.lv_text.proofs.laws.printed_is_read_again.Goals as goal

pub returns : goal.returns
returns c = printed_again
