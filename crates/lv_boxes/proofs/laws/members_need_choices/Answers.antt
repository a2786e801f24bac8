-- what is not left at some slot is left at no candidate
use Rattle.std.proofs.Common.{arith}
use Rattle.lv_boxes.proofs.LeastLemmas.{lacks_choice-none, has_least}
use Rattle.lv_boxes.proofs.laws.members_need_choices.Goals as goal

pub returns : goal.returns
returns c = record { lacking = λ slots zone h candidate. rw (lacks_choice-none slots zone.masks candidate.choices h) (grind arith); having = has_least }
