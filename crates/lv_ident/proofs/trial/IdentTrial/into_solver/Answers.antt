-- the solver is the one that is asked
use Rattle.std.proofs.Common.{subst, sym}
use Rattle.lv_clauses.specs.ClauseMap.{ClauseMap}
use Rattle.lv_ident.specs.Trial.{TrialValue, IsSolverOf}
use Rattle.lv_ident.proofs.trial.IdentTrial.into_solver.Goals as goal

pub returns : goal.returns
returns c =
    subst (λ (t : TrialValue). IsSolverOf t.plant c.into_solver.result) c.self.view_is
    (subst (λ (set : ClauseMap). IsSolverOf c.self.inside.model.now set) (sym c.into_solver.ensures) c.self.invariant.solver)
