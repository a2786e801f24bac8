-- what was added and what is said of the parts left is what is said of all
use Rattle.std.proofs.Common.{◌≡◌, ◌++◌, drop}
use Rattle.lv_plant_step.specs.Literals.{move_literals}
use Rattle.lv_plant_step.proofs.literals.push_moves.Given as goal

abbrev pub invariant-loop-k : goal.invariant-loop-k
invariant-loop-k l =
    l.out.items ++ move_literals l.model.types l.choices l.k (drop l.k l.model.parts) (drop l.k l.faults) ≡ l.initial.out.items ++ move_literals l.model.types l.choices 0 l.model.parts l.faults
