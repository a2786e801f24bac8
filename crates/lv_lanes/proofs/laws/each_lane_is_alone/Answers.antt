use Rattle.lv_lanes.proofs.AloneLemmas.{each_is_alone}
use Rattle.lv_lanes.proofs.laws.each_lane_is_alone.Goals as goal

pub returns : goal.returns
returns g c = each_is_alone g.L.Responder.next g.L.Responder.says g.L.Lane.start g.L.Lane.is_open
