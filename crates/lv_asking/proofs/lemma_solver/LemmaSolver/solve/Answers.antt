-- what is said of the clauses with the lemmas holds of those given
use Rattle.std.proofs.Common.{ap, ◌∙◌, subst}
use Rattle.lv_clauses.specs.Literals.{is_clause}
use Rattle.lv_clauses.specs.ClauseMap.{ClauseMap}
use Rattle.lv_sat.specs.Answers.{IsRefutation, IsSatisfied}
use Rattle.lv_asking.specs.Lemmas.{HaveSameModels}
use Rattle.lv_asking.proofs.LemmaLemmas.{core_of, model_of}
use Rattle.lv_asking.proofs.lemma_solver.LemmaSolver.solve.Goals as goal

pub solve-requires : goal.solve-requires
solve-requires c = ap (λ n. is_clause n c.args.assumptions.now) (c.self.invariant.models.bools ∙ ap (λ (s : ClauseMap). s.bools) c.self.view_is) ∙ c.requires

pub returns-in_ok-self-inside-in-Sat-clause-reply : goal.returns-in_ok-self-inside-in-Sat-clause-reply
returns-in_ok-self-inside-in-Sat-clause-reply c =
    let told : IsSatisfied c.self.inside.solver.set c.args.assumptions.now c.in-Sat.values c.in-Sat.log = rw c.in-Sat.is at c.in_ok-values.ensures.answer in
    model_of c.args.self.now c.self.inside.solver.set c.args.assumptions.now c.in-Sat.values (subst (λ (s : ClauseMap). HaveSameModels s c.self.inside.solver.set) c.self.view_is c.self.invariant.models) told.model

pub returns-in_ok-self-inside-in-Unsat-clause-reply : goal.returns-in_ok-self-inside-in-Unsat-clause-reply
returns-in_ok-self-inside-in-Unsat-clause-reply c =
    let told : IsRefutation c.self.inside.solver.set c.args.assumptions.now c.in-Unsat.core c.in-Unsat.log = rw c.in-Unsat.is at c.in_ok-values.ensures.answer in
    core_of c.args.self.now c.self.inside.solver.set c.args.assumptions.now c.in-Unsat.core c.in-Unsat.log (subst (λ (s : ClauseMap). HaveSameModels s c.self.inside.solver.set) c.self.view_is c.self.invariant.models) told
