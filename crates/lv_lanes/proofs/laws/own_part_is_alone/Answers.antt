use Rattle.lv_lanes.proofs.ByteLaws.{own_part_is_alone}
use Rattle.lv_lanes.proofs.laws.own_part_is_alone.Goals as goal

pub returns : goal.returns
returns g c = own_part_is_alone g.L.Responder.next g.L.Responder.says g.L.Lane.start g.L.Lane.is_open
