-- the front is empty, and the last values satisfy the clauses that are left; nothing is refuted
use Rattle.lv_sat.proofs.solver.Solver.remove.Goals as goal

pub invariant_of-self : goal.invariant_of-self
invariant_of-self c = record { front = c.forget.ensures c.remove.new.self; last = c.remove-2.ensures c.self.inside.set c.remove.new.self c.args.id.0 c.self.invariant.last c.remove.ensures; refuted = tt }
