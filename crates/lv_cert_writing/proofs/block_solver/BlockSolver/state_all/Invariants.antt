-- the clauses so far are stated
use Rattle.std.proofs.Common.{take}
use Rattle.lv_system.specs.System.{SystemValue}
use Rattle.lv_cert_writing.specs.StatedClauses.{IsShared, AreStated}
use Rattle.lv_cert_writing.proofs.block_solver.BlockSolver.state_all.Given as goal

abbrev pub invariant-loop-at : goal.invariant-loop-at
invariant-loop-at l =
    record {
      stated : AreStated l.fn.self.solver.set l.fn.self.numbers.items l.models (take l.at l.own) l.self.solver.set l.self.numbers.items l.assumed.lits.items l.assumed.numbers.items;
      shared : (s : SystemValue) → IsShared s l.fn.self.solver.set l.fn.self.added.items l.fn.self.numbers.items → IsShared s l.self.solver.set l.self.added.items l.self.numbers.items;
    }
