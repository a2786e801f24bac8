use Rattle.lv_text.proofs.SliceLaws.{text_stays}
use Rattle.lv_text.proofs.laws.text_stays_before_more.Goals as goal

pub returns : goal.returns
returns c = text_stays
