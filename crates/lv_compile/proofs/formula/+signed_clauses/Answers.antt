-- operand by operand, in either sign
use Rattle.std.proofs.Common.{ℕ, ◌+◌, ◌<◌, ◌≤◌, Bool, true, false, not, List, ◌∷◌, map, drop, length, refl, sym, ap, ◌∙◌, arith}
use Rattle.std.proofs.lemmas.Bool.{and_parts}
use Rattle.std.proofs.lemmas.List.{drop_more, drop_all}
use Rattle.lv_base.specs.declared.formula.Formula.{Formula}
use Rattle.lv_base.specs.Tree.{tree_of, trees_of}
use Rattle.lv_compile.specs.Booleans.{Booleans}
use Rattle.lv_compile.specs.FormulaClauses.{Clauses, asked, formula_clauses, gathered_clauses, speaks_of, each_speaks_of}
use Rattle.lv_compile.proofs.GatherLemmas.{gathered_start, gathered_more, gathered_all}
use Rattle.lv_compile.proofs.formula.+signed_clauses.Goals as goal

-- what the operands from this place on come to
abbrev left_from : Booleans → ℕ → Bool → Bool → List Formula → ℕ → Clauses
left_from b base of_all sign fs index = gathered_clauses b base of_all sign (trees_of (map tree_of (drop index fs)))

pub gathered_clauses-operands-init : goal.gathered_clauses-operands-init
gathered_clauses-operands-init t c =
    let whole = λ (of_all sign : Bool). gathered_clauses c.args.target.now.bools.now c.args.target.now.base of_all sign (trees_of (map tree_of c.args.operands.now)) in
    record {
      positive = gathered_start c.args.signs.when_true c.args.of_all c.in_ok-whole.whole.value.when_true.items (whole c.args.of_all true) c.in_ok-whole.ensures.when_true;
      negative = gathered_start c.args.signs.when_false (not c.args.of_all) c.in_ok-whole.whole.value.when_false.items (whole (not c.args.of_all) false) c.in_ok-whole.ensures.when_false;
      within = c.requires;
    }

pub gathered_clauses-operands-preserved : goal.gathered_clauses-operands-preserved
gathered_clauses-operands-preserved t c =
    let b = c.args.target.now.bools.now in
    let base = c.args.target.now.base in
    let fs = c.args.operands.now in
    let index = c.operands.operand-index in
    let f = tree_of c.operand-item.result in
    let inside : index < length fs = omega arith in
    let left = drop_more fs index c.operand-item.result inside ∙ ap (λ x. x ∷ drop (index + 1) fs) (sym c.operand-item.is) in
    let two =
    and_parts (speaks_of b base f) (each_speaks_of b base (trees_of (map tree_of (drop (index + 1) fs))))
    (sym (ap (λ xs. each_speaks_of b base (trees_of (map tree_of xs))) left) ∙ c.operands.invariant.within) in
    record {
      positive =
          gathered_more c.args.signs.when_true c.args.of_all c.operands.whole.value.when_true.items c.in_ok-whole-2.whole.value.when_true.items (asked c.args.signs.when_true (formula_clauses b base true f)) (formula_clauses b base true f)
          (left_from b base c.args.of_all true fs (index + 1)) (left_from b base c.args.of_all true fs index) (left_from b base c.args.of_all true fs 0) c.operands.invariant.positive
          (ap (λ xs. gathered_clauses b base c.args.of_all true (trees_of (map tree_of xs))) left) refl c.in_ok-whole-2.ensures.when_true;
      negative =
          gathered_more c.args.signs.when_false (not c.args.of_all) c.operands.whole.value.when_false.items c.in_ok-whole-2.whole.value.when_false.items (asked c.args.signs.when_false (formula_clauses b base false f)) (formula_clauses b base false f)
          (left_from b base (not c.args.of_all) false fs (index + 1)) (left_from b base (not c.args.of_all) false fs index) (left_from b base (not c.args.of_all) false fs 0)
          c.operands.invariant.negative (ap (λ xs. gathered_clauses b base (not c.args.of_all) false (trees_of (map tree_of xs))) left) refl
          c.in_ok-whole-2.ensures.when_false;
      within = two.1;
    }

pub gathered_clauses-returns-clause-when_true : goal.gathered_clauses-returns-clause-when_true
gathered_clauses-returns-clause-when_true t c =
    let b = c.args.target.now.bools.now in
    let fs = c.args.operands.now in
    let past : length fs ≤ c.operands.operand-index = omega arith in
    gathered_all c.args.signs.when_true c.args.of_all c.operands.whole.value.when_true.items (left_from b c.args.target.now.base c.args.of_all true fs c.operands.operand-index)
    (left_from b c.args.target.now.base c.args.of_all true fs 0) c.operands.invariant.positive
    (ap (λ xs. gathered_clauses b c.args.target.now.base c.args.of_all true (trees_of (map tree_of xs))) (drop_all c.operands.operand-index fs past))

pub gathered_clauses-returns-clause-when_false : goal.gathered_clauses-returns-clause-when_false
gathered_clauses-returns-clause-when_false t c =
    let b = c.args.target.now.bools.now in
    let fs = c.args.operands.now in
    let past : length fs ≤ c.operands.operand-index = omega arith in
    gathered_all c.args.signs.when_false (not c.args.of_all) c.operands.whole.value.when_false.items (left_from b c.args.target.now.base (not c.args.of_all) false fs c.operands.operand-index)
    (left_from b c.args.target.now.base (not c.args.of_all) false fs 0) c.operands.invariant.negative
    (ap (λ xs. gathered_clauses b c.args.target.now.base (not c.args.of_all) false (trees_of (map tree_of xs))) (drop_all c.operands.operand-index fs past))
