-- the solver is asked for the two in another order, and its answer is of them as they stand
use Rattle.std.proofs.Common.{◌++◌, List, subst, sym, ap, ◌∙◌, IsPermutation}
use Rattle.lv_base.specs.declared.ids.Lit.{Lit}
use Rattle.lv_clauses.specs.ClauseMap.{ClauseMap}
use Rattle.lv_sat.specs.Answers.{IsModel}
use Rattle.lv_asking.specs.Replies.{IsCore}
use Rattle.lv_asking.proofs.OrderLemmas.{clause_permuted, one_of_permuted}
use Rattle.lv_asking.proofs.SolutionLemmas.{model_permuted}
use Rattle.lv_asking.proofs.RefuteLemmas.{core_is_clause, none_with_core}
use Rattle.lv_asking.proofs.refutation.ask.Goals as goal

pub solve-requires : goal.solve-requires
solve-requires c =
    let both : List Lit = c.args.chosen.now ++ c.args.assumed.now in
    let order : IsPermutation both c.as_slice.result.now = subst (IsPermutation both) (sym c.as_slice.ensures.value) c.in_ok-lits.ensures in
    clause_permuted c.args.solver.now.bools both c.as_slice.result.now order c.requires

pub returns-in-Values-clause-answer : goal.returns-in-Values-clause-answer
returns-in-Values-clause-answer c =
    let both : List Lit = c.args.chosen.now ++ c.args.assumed.now in
    let order : IsPermutation both c.as_slice.result.now = subst (IsPermutation both) (sym c.as_slice.ensures.value) c.in_ok-lits.ensures in
    let told : IsModel c.args.solver.now c.as_slice.result.now c.in-Values.values = rw c.in-Values.is at c.in_ok-values.ensures.reply in
    model_permuted c.args.solver.now both c.as_slice.result.now c.in-Values.values order told

pub marks_of-requires : goal.marks_of-requires
marks_of-requires c =
    let both : List Lit = c.args.chosen.now ++ c.args.assumed.now in
    let asked : List Lit = c.as_slice.result.now in
    let order : IsPermutation both asked = subst (IsPermutation both) (sym c.as_slice.ensures.value) c.in_ok-lits.ensures in
    let told : IsCore c.args.solver.now asked c.in-Core.core = rw c.in-Core.is at c.in_ok-values.ensures.reply in
    let bools = c.bools-bools.ensures ∙ ap (λ (s : ClauseMap). s.bools) c.solve.ensures.kept in
    rw (bools, c.as_slice-in-Core.ensures)
    (core_is_clause c.args.solver.now.bools c.in-Core.core asked told.part (clause_permuted c.args.solver.now.bools both asked order c.requires))

pub returns-clause-answer : goal.returns-clause-answer
returns-clause-answer c =
    let both : List Lit = c.args.chosen.now ++ c.args.assumed.now in
    let asked : List Lit = c.as_slice.result.now in
    let order : IsPermutation both asked = subst (IsPermutation both) (sym c.as_slice.ensures.value) c.in_ok-lits.ensures in
    let told : IsCore c.args.solver.now asked c.in-Core.core = rw c.in-Core.is at c.in_ok-values.ensures.reply in
    none_with_core c.args.solver.now c.args.chosen.now c.args.assumed.now asked c.in-Core.core c.in_ok-marks_of-in-Core.field-0
    (λ (l : Lit). one_of_permuted c.args.chosen.now c.args.assumed.now asked l order) told (rw c.as_slice-in-Core.ensures at c.in_ok-marks_of-in-Core.ensures)
