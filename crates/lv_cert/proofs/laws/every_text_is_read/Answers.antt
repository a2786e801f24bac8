use Rattle.lv_cert.proofs.WholeLemmas.{every_text}
use Rattle.lv_cert.proofs.laws.every_text_is_read.Goals as goal

pub returns : goal.returns
returns c = every_text
