use Rattle.std.proofs.Common.{◌≡◌, ◌++◌, drop}
use Rattle.lv_lanes.specs.Replies.{lane_texts}
use Rattle.lv_lanes.proofs.reply.put_lane_texts.Given as goal

-- what was added, with what is left, is all
abbrev pub invariant-loop-reply : goal.invariant-loop-reply
invariant-loop-reply l = l.out.items ++ lane_texts (drop l.reply-index l.replies) ≡ l.initial.out.items ++ lane_texts l.replies
