use Rattle.lv_text.proofs.BadBytes.{bad_law}
use Rattle.lv_text.proofs.laws.bad_byte_is_not_allowed.Goals as goal

pub returns : goal.returns
returns c = bad_law
