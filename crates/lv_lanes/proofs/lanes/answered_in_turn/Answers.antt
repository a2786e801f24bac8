use Rattle.std.proofs.Common.{rules}
use Rattle.lv_lanes.specs.Standing.{more_line}
use Rattle.lv_lanes.proofs.LoopLemmas.{all_turned}
use Rattle.lv_lanes.proofs.lanes.answered_in_turn.Goals as goal

pub returns-clause-goes : goal.returns-clause-goes
returns-clause-goes g c =
    all_turned g.L.Responder.next g.L.Lane.is_open c.args.lanes.now.len c.deref.result.now (more_line c.args.trials) c.deref_mut.result.now
    c.args.lanes.now.items c.answer_all_open.new.lanes (search rules) (search rules) (search rules) (search rules) c.in_ok-replies.ensures.goes
