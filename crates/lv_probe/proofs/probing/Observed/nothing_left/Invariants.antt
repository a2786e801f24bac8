-- what was added, with what is left of the variables that are left, is all
use Rattle.std.proofs.Common.{◌≡◌, ◌++◌, drop, map}
use Rattle.lv_probe.specs.Probing.{none_left}
use Rattle.lv_probe.proofs.probing.Observed.nothing_left.Given as goal

abbrev pub invariant-loop-var : goal.invariant-loop-var
invariant-loop-var l = l.out.items ++ map (none_left l.self.values.now) (drop l.var-index l.self.variables.now) ≡ map (none_left l.self.values.now) l.self.variables.now
