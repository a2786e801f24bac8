-- what is left to take away stands beside the system's clauses
use Rattle.std.proofs.Common.{length}
use Rattle.lv_system.specs.System.{SystemValue}
use Rattle.lv_cert_writing.specs.StatedClauses.{IsShared}
use Rattle.lv_cert_writing.proofs.block_solver.BlockSolver.clear.Given as goal

abbrev pub invariant-loop-id : goal.invariant-loop-id
invariant-loop-id l =
    (s : SystemValue) → IsShared s l.fn.self.solver.set l.fn.self.added.items l.fn.self.numbers.items → IsShared s l.self.solver.set l.self.added.items l.self.numbers.items

abbrev pub decreases-loop-id : goal.decreases-loop-id
decreases-loop-id l = length l.self.added.items
