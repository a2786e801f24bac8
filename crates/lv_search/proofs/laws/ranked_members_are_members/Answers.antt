-- each zone's members are listed once put in order
use Rattle.lv_boxes.proofs.RankedMemberLemmas.{ranked_members_rise, among_ranked_members_any, all_members_pass}
use Rattle.lv_search.proofs.laws.ranked_members_are_members.Goals as goal

pub returns : goal.returns
returns c = record { rising = ranked_members_rise; among = among_ranked_members_any; all = all_members_pass }
