use Rattle.lv_text.proofs.SliceLaws.{text_moves}
use Rattle.lv_text.proofs.laws.text_moves_with_token.Goals as goal

pub returns : goal.returns
returns c = text_moves
