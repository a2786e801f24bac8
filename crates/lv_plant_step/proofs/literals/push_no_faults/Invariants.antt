-- what was added and what the moves left say is what all say
use Rattle.std.proofs.Common.{◌≡◌, ◌++◌, drop}
use Rattle.lv_plant_step.specs.Literals.{no_fault_literals}
use Rattle.lv_plant_step.proofs.literals.push_no_faults.Given as goal

abbrev pub invariant-loop-n : goal.invariant-loop-n
invariant-loop-n l = l.out.items ++ no_fault_literals l.choices l.part l.n (drop l.n l.moves) ≡ l.initial.out.items ++ no_fault_literals l.choices l.part 0 l.moves
