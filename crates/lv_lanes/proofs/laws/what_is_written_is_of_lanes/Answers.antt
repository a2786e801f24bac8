use Rattle.lv_lanes.proofs.AloneLemmas.{written_is_of_lanes}
use Rattle.lv_lanes.proofs.laws.what_is_written_is_of_lanes.Goals as goal

pub returns : goal.returns
returns g c = written_is_of_lanes g.L.Responder.next g.L.Responder.says g.L.Lane.start g.L.Lane.is_open
