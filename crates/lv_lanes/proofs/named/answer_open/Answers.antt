use Rattle.std.proofs.Common.{rules, ◌≡◌, true}
use Rattle.lv_lanes.proofs.LoopLemmas.{one_reply}
use Rattle.lv_lanes.proofs.named.answer_open.Goals as goal

pub returns-clause-some : goal.returns-clause-some
returns-clause-some g c =
    let is : g.L.Lane.is_open c.args.lane.now.lane ≡ true = search rules in
    one_reply g.L.Responder.says g.L.Lane.is_open c.args.line.now c.args.lane.now (record { name = c.in_ok-from_slice.field-0; text = c.in_ok-text.text }) is
    (search rules) (search rules)
