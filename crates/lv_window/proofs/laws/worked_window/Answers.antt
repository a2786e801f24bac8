use Rattle.std.proofs.Common.{refl}
use Rattle.lv_window.proofs.laws.worked_window.Goals as goal

pub returns : goal.returns
returns c = refl
