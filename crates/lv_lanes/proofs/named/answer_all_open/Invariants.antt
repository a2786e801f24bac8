use Rattle.std.proofs.Common.{◌≡◌, ◌++◌, map, take, drop}
use Rattle.lv_lanes.specs.Standing.{errands_to_open, turned}
use Rattle.lv_lanes.specs.Replies.{AreReplies}
use Rattle.lv_lanes.proofs.named.answer_all_open.Given as goal

-- the lanes seen so far had their turn, the others are as they were
abbrev pub invariant-loop-lane : goal.invariant-loop-lane
invariant-loop-lane g l = record {
  lanes : l.lanes ≡ map (turned g.L.Responder.next g.L.Lane.is_open l.line) (take l.lane-index l.fn.lanes) ++ drop l.lane-index l.fn.lanes;
  replies : AreReplies g.L.Responder.says (errands_to_open g.L.Lane.is_open l.line (take l.lane-index l.fn.lanes)) l.replies.items;
}
