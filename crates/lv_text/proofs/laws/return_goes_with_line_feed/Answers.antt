use Rattle.lv_text.proofs.LineLaws.{return_goes}
use Rattle.lv_text.proofs.laws.return_goes_with_line_feed.Goals as goal

pub returns : goal.returns
returns c = return_goes
