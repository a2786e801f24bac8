-- the solver is asked for the literals in another order, and its answer is of them as they stand
use Rattle.std.proofs.Common.{◌++◌, [], List, subst, sym, ap, ◌∙◌, IsPermutation}
use Rattle.lv_base.specs.declared.ids.Lit.{Lit}
use Rattle.lv_clauses.specs.ClauseMap.{ClauseMap}
use Rattle.lv_sat.specs.Answers.{IsRefutation, IsSatisfied}
use Rattle.lv_asking.proofs.OrderLemmas.{clause_permuted, one_of_permuted}
use Rattle.lv_asking.proofs.SolutionLemmas.{model_permuted}
use Rattle.lv_asking.proofs.LemmaLemmas.{core_of, same_self}
use Rattle.lv_asking.proofs.RefuteLemmas.{core_is_clause, none_with_core}
use Rattle.lv_asking.proofs.refutation.refute_once.Goals as goal

pub solve-requires : goal.solve-requires
solve-requires c =
    let both : List Lit = c.args.lits.now ++ [] in
    let order : IsPermutation both c.as_slice.result.now = subst (IsPermutation both) (sym c.as_slice.ensures.value) c.in_ok-asked.ensures in
    clause_permuted c.args.solver.now.set.bools both c.as_slice.result.now order c.requires

pub returns-in-Sat-clause-answer : goal.returns-in-Sat-clause-answer
returns-in-Sat-clause-answer c =
    let both : List Lit = c.args.lits.now ++ [] in
    let order : IsPermutation both c.as_slice.result.now = subst (IsPermutation both) (sym c.as_slice.ensures.value) c.in_ok-asked.ensures in
    let told : IsSatisfied c.args.solver.now.set c.as_slice.result.now c.in-Sat.values c.in-Sat.log = rw c.in-Sat.is at c.in_ok-solve.ensures.answer in
    record { values = c.in-Sat.values; model = model_permuted c.args.solver.now.set both c.as_slice.result.now c.in-Sat.values order told.model }

pub marks_of-requires : goal.marks_of-requires
marks_of-requires c =
    let both : List Lit = c.args.lits.now ++ [] in
    let asked : List Lit = c.as_slice.result.now in
    let order : IsPermutation both asked = subst (IsPermutation both) (sym c.as_slice.ensures.value) c.in_ok-asked.ensures in
    let told : IsRefutation c.args.solver.now.set asked c.in-Unsat.core c.in-Unsat.log = rw c.in-Unsat.is at c.in_ok-solve.ensures.answer in
    let bools = c.bools-bools.ensures ∙ ap (λ (s : ClauseMap). s.bools) (c.clauses.ensures ∙ c.solve.ensures.kept) in
    rw (bools, c.as_slice-in-Unsat.ensures)
    (core_is_clause c.args.solver.now.set.bools c.in-Unsat.core asked told.part (clause_permuted c.args.solver.now.set.bools both asked order c.requires))

pub returns-clause-answer : goal.returns-clause-answer
returns-clause-answer c =
    let both : List Lit = c.args.lits.now ++ [] in
    let asked : List Lit = c.as_slice.result.now in
    let order : IsPermutation both asked = subst (IsPermutation both) (sym c.as_slice.ensures.value) c.in_ok-asked.ensures in
    let told : IsRefutation c.args.solver.now.set asked c.in-Unsat.core c.in-Unsat.log = rw c.in-Unsat.is at c.in_ok-solve.ensures.answer in
    none_with_core c.args.solver.now.set c.args.lits.now [] asked c.in-Unsat.core c.in_ok-marks_of-in-Unsat.field-0
    (λ (l : Lit). one_of_permuted c.args.lits.now [] asked l order)
    (core_of c.args.solver.now.set c.args.solver.now.set asked c.in-Unsat.core c.in-Unsat.log (same_self c.args.solver.now.set) told)
    (rw c.as_slice-in-Unsat.ensures at c.in_ok-marks_of-in-Unsat.ensures)
