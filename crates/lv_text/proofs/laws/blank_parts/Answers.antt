use Rattle.lv_text.proofs.TokenLaws.{blank_law}
use Rattle.lv_text.proofs.laws.blank_parts.Goals as goal

pub returns : goal.returns
returns c = blank_law
