use Rattle.lv_text.proofs.TextLaws.{text_law}
use Rattle.lv_text.proofs.laws.text_is_token.Goals as goal

pub returns : goal.returns
returns c = text_law
