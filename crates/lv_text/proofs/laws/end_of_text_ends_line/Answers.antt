use Rattle.lv_text.proofs.LineLaws.{end_ends}
use Rattle.lv_text.proofs.laws.end_of_text_ends_line.Goals as goal

pub returns : goal.returns
returns c = end_ends
