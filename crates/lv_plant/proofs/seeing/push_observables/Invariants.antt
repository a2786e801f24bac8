use Rattle.std.proofs.Common.{◌≡◌, ◌+◌, ◌++◌, drop}
use Rattle.lv_plant.specs.Seeing.{observables_from}
use Rattle.lv_plant.proofs.seeing.push_observables.Given as goal

-- what was added and the observables among what is left are all observables
abbrev pub invariant-loop-i : goal.invariant-loop-i
invariant-loop-i l =
    l.out.items ++ observables_from (l.first + l.i) (drop l.i l.variables) ≡ l.initial.out.items ++ observables_from l.first l.variables
