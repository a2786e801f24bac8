use Rattle.std.proofs.Common.{◌≡◌, ◌+◌, ◌++◌, drop}
use Rattle.lv_model.specs.Lists.{controls_from}
use Rattle.lv_model.proofs.variables.push_controls.Given as goal

-- what was added and the controls among what is left are all controls
abbrev pub invariant-loop-i : goal.invariant-loop-i
invariant-loop-i l =
    l.out.items ++ controls_from (l.first + l.i) (drop l.i l.variables) ≡ l.initial.out.items ++ controls_from l.first l.variables
