use Rattle.lv_lanes.proofs.LoopLemmas.{goes_so, replies_so}
use Rattle.lv_lanes.proofs.lanes.Lanes.step.Goals as goal

pub returns-in-Ok-clause-goes : goal.returns-in-Ok-clause-goes
returns-in-Ok-clause-goes g c =
    let inside = c.self.inside in
    goes_so g.L.Responder.says g.L.Lane.start g.L.Lane.is_open g.L.Responder.next
    (record { first = inside.first; lanes = inside.lanes.items; is_out_of_memory = inside.is_out_of_memory }) c.args.self.now c.args.line.now
    c.answered.new.lanes.items c.self.view_is c.in-Ok.ensures.goes

pub returns-in-Ok-clause-replies : goal.returns-in-Ok-clause-replies
returns-in-Ok-clause-replies g c =
    let inside = c.self.inside in
    replies_so g.L.Responder.says g.L.Lane.start g.L.Lane.is_open
    (record { first = inside.first; lanes = inside.lanes.items; is_out_of_memory = inside.is_out_of_memory }) c.args.self.now c.args.line.now
    c.in-Ok.reply c.self.view_is c.in-Ok.ensures.replies
