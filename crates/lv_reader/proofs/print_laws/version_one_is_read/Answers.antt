-- by the tokens of the line
use Rattle.lv_reader.proofs.Lines.{one_is_read}
use Rattle.lv_reader.proofs.print_laws.version_one_is_read.Goals as goal

pub returns : goal.returns
returns c = one_is_read
