-- by what the printed text reads as
use Rattle.lv_reader.proofs.Texts.{printed_twice}
use Rattle.lv_reader.proofs.print_laws.printed_twice_is_the_same.Goals as goal

pub returns : goal.returns
returns c = printed_twice
