use Rattle.std.proofs.Common.{rules, get_or, sym}
use Rattle.std.proofs.lemmas.Option.{slice_get_read}
use Rattle.lv_lanes.proofs.LoopLemmas.{answered_at}
use Rattle.lv_lanes.proofs.named.answer_named.Goals as goal

pub returns-then-has_name : goal.returns-then-has_name
returns-then-has_name g c start =
    answered_at g.L.Responder.next g.L.Responder.says c.args.name.now c.args.line.now start c.loop-lane.lanes c.args.lanes.now c.loop-lane.lane-index
    c.lane-item.result (get_or c.loop-lane.lanes c.loop-lane.lane-index c.lane-item.result) c.answer_of.new.lane c.in_ok-answer_of.field-0
    (search (rules, slice_get_read)) (sym c.lane-item.is) c.loop-lane.invariant.same c.loop-lane.invariant.none (search rules)
    c.in_ok-answer_of.ensures.goes c.in_ok-answer_of.ensures.says
