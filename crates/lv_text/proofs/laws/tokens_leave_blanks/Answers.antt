use Rattle.lv_text.proofs.Gaps.{leave_law}
use Rattle.lv_text.proofs.laws.tokens_leave_blanks.Goals as goal

pub returns : goal.returns
returns c = leave_law
