-- line by line
use Rattle.lv_reader.proofs.Lengths.{little_longer}
use Rattle.lv_reader.proofs.print_laws.text_is_little_longer.Goals as goal

pub returns : goal.returns
returns c = little_longer
