-- each rank is put in at its place in the order
use Rattle.lv_meaning.proofs.Rising.{candidates_rise_law}
use Rattle.lv_meaning.proofs.laws.candidates_rise.Goals as goal

pub returns : goal.returns
returns c = candidates_rise_law
