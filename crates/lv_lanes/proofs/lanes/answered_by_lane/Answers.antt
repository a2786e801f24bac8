use Rattle.std.proofs.Common.{refl}
use Rattle.lv_lanes.specs.Standing.{has_place}
use Rattle.lv_lanes.proofs.LoopLemmas.{replied_by_lane}
use Rattle.lv_lanes.proofs.lanes.answered_by_lane.Goals as goal

pub returns-clause-replies : goal.returns-clause-replies
returns-clause-replies g c =
    replied_by_lane g.L.Responder.next g.L.Responder.says (has_place c.args.name.now c.args.lanes.now.items) c.args.name.now c.args.line.now
    (g.L.Lane.start c.args.first.now) c.args.lanes.now.items c.answer_for.new.lanes.items c.in_ok-text.field-0 c.in-Some.text
    (record { name = c.in_ok-from_slice.field-0; text = c.in-Some.text }) c.new-replies.result c.push.new.self
    c.in_ok-text.ensures c.in-Some.is c.in_ok-from_slice.ensures refl c.new-replies.ensures c.in_ok-push.ensures.ok
