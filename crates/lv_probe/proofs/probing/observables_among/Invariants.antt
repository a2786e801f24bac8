-- the observables among the variables looked at
use Rattle.std.proofs.Common.{◌≡◌}
use Rattle.lv_probe.specs.Probing.{observables_among}
use Rattle.lv_probe.proofs.probing.observables_among.Given as goal

abbrev pub invariant-loop-n : goal.invariant-loop-n
invariant-loop-n l = l.out.items ≡ observables_among l.kinds l.n
