use Rattle.lv_text.proofs.LineLaws.{lines_part}
use Rattle.lv_text.proofs.laws.lines_part_at_line_feed.Goals as goal

pub returns : goal.returns
returns c = lines_part
