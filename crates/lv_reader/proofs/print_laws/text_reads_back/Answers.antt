-- line by line
use Rattle.lv_reader.proofs.Texts.{reads_back}
use Rattle.lv_reader.proofs.print_laws.text_reads_back.Goals as goal

pub returns : goal.returns
returns c = reads_back
