use Rattle.std.proofs.Common.{◌≡◌, ◌++◌, codes, drop, true}
use Rattle.lv_lanes.specs.Replies.{fronted}
use Rattle.lv_lanes.proofs.reply.put_lane_text.Given as goal

-- what was added, with what is left, is all
abbrev pub invariant-loop-byte : goal.invariant-loop-byte
invariant-loop-byte l =
    l.out.items ++ fronted (codes "@" ++ l.reply.name ++ codes " ") l.begins (drop l.byte-index l.byte-items)
    ≡ l.initial.out.items ++ fronted (codes "@" ++ l.reply.name ++ codes " ") true l.byte-items
