-- line by line
use Rattle.lv_cert_laws.proofs.Contents.{read_off}
use Rattle.lv_cert_laws.proofs.judged_is_read_off.Goals as goal

pub returns : goal.returns
returns c = read_off
