-- only the member itself contains all its choices
use Rattle.lv_boxes.proofs.MemberLemmas.{loses_one}
use Rattle.lv_boxes.proofs.laws.split_by_member_loses_one.Goals as goal

pub returns : goal.returns
returns c = loses_one
