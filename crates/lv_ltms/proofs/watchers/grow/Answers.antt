-- one more that is blank
use Rattle.std.proofs.Common.{refl, arith}
use Rattle.lv_ltms.proofs.watchers.grow.Goals as goal

pub loop-watches-init : goal.loop-watches-init
loop-watches-init c = record { more = omega arith; most = c.requires; same = λ i. refl }
