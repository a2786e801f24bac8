use Rattle.lv_text.proofs.LineLaws.{first_stays}
use Rattle.lv_text.proofs.laws.first_line_stays.Goals as goal

pub returns : goal.returns
returns c = first_stays
