use Rattle.lv_text.proofs.TokenLaws.{blank_line_law}
use Rattle.lv_text.proofs.laws.blank_line_is_empty.Goals as goal

pub returns : goal.returns
returns c = blank_line_law
