use Rattle.lv_cert.proofs.TextLemmas.{line_written}
use Rattle.lv_cert.proofs.laws.line_reads_back.Goals as goal

pub returns : goal.returns
returns c = line_written
