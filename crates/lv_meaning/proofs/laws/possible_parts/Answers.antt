-- a witness of the whole is one of the part
use Rattle.lv_meaning.proofs.Possibility.{part_possible, possible_without}
use Rattle.lv_meaning.proofs.laws.possible_parts.Goals as goal

pub returns : goal.returns
returns c = record { among = part_possible; one_left_out = possible_without }
