use Rattle.std.proofs.Common.{rules, ◌≡◌}
use Rattle.lv_lanes.specs.Forms.{nothing, asked_by}
use Rattle.lv_lanes.proofs.LoopLemmas.{nothing_replied}
use Rattle.lv_lanes.proofs.lanes.answered.Goals as goal

pub returns-in-Nothing-clause-replies : goal.returns-in-Nothing-clause-replies
returns-in-Nothing-clause-replies g c =
    let is : asked_by c.args.line.now ≡ nothing = search rules in
    nothing_replied g.L.Responder.says g.L.Lane.start g.L.Lane.is_open c.args.first.now c.args.lanes.now.items (asked_by c.args.line.now) c.new.result is
    c.new.ensures
