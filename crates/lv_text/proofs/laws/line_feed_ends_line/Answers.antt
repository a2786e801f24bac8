use Rattle.lv_text.proofs.LineLaws.{line_feed_ends}
use Rattle.lv_text.proofs.laws.line_feed_ends_line.Goals as goal

pub returns : goal.returns
returns c = line_feed_ends
