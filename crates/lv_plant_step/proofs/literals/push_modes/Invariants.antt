-- what was added and what is left of parts and modes are all modes
use Rattle.std.proofs.Common.{◌≡◌, ◌++◌, drop}
use Rattle.lv_plant_step.specs.Literals.{mode_facts}
use Rattle.lv_plant_step.proofs.literals.push_modes.Given as goal

abbrev pub invariant-loop-k : goal.invariant-loop-k
invariant-loop-k l = l.out.items ++ mode_facts (drop l.k l.parts) (drop l.k l.modes) ≡ l.initial.out.items ++ mode_facts l.parts l.modes
