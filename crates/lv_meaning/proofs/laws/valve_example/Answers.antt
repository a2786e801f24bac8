-- both sides compute to the same
use Rattle.std.proofs.Common.{refl}
use Rattle.lv_meaning.proofs.laws.valve_example.Goals as goal

pub returns : goal.returns
returns c = record { all = refl; opened = refl; got_stuck = refl; idle = refl; idle_first = refl; neither = refl }
