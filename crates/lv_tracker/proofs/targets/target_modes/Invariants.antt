use Rattle.std.proofs.Common.{◌≡◌, ◌++◌, drop}
use Rattle.lv_meaning.specs.Targets.{target_modes}
use Rattle.lv_tracker.proofs.targets.target_modes.Given as goal

-- what was added and the targets of the parts that are left are all targets
abbrev pub invariant-loop-at : goal.invariant-loop-at
invariant-loop-at l = l.modes.items ++ target_modes l.types (drop l.at l.parts) (drop l.at l.moves) ≡ target_modes l.types l.parts l.moves
