-- the refutation kept refutes these assumptions too
use Rattle.std.proofs.Common.{IfOk, ap, subst}
use Rattle.lv_clauses.specs.ClauseMap.{ClauseMap}
use Rattle.lv_sat.specs.Answers.{Answers, IsSublist}
use Rattle.lv_sat.specs.Solver.{SolverValue}
use Rattle.lv_sat.proofs.RefutedLemmas.{again_answers}
use Rattle.lv_sat.proofs.solver.Solver.solve.Goals as goal

pub returns-clause-answer : goal.returns-clause-answer
returns-clause-answer c =
    let part : IsSublist c.as_slice.result.now c.args.assumptions.now = c.is_part.ensures.0 c.if-is_part.true in
    subst (λ (set : ClauseMap). IfOk c.answer.result (Answers set c.args.assumptions.now)) (ap (λ (s : SolverValue). s.set) c.self.view_is)
    (again_answers c.self.inside.set c.self.inside.refuted c.in-Some.refuted c.as_slice.result.now c.args.assumptions.now c.answer.result c.self.invariant.refuted c.in-Some.is c.as_slice.ensures part c.answer.ensures)
