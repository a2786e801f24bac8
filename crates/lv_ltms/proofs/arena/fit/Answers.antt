-- one more for which nothing is noted
use Rattle.std.proofs.Common.{refl}
use Rattle.lv_ltms.proofs.arena.fit.Goals as goal

pub loop-pairs-init : goal.loop-pairs-init
loop-pairs-init c = record { same = λ i. refl }
