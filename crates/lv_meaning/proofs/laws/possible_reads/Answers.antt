-- the search finds a witness exactly where there is one
use Rattle.lv_meaning.proofs.Possibility.{witnessed, possible}
use Rattle.lv_meaning.proofs.laws.possible_reads.Goals as goal

pub returns : goal.returns
returns c = record { witnessed = witnessed; possible = possible }
