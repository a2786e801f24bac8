-- operand by operand, in either sign
use Rattle.std.proofs.Common.{◌≡◌, ◌+◌, ◌<◌, ◌∷◌, map, drop, length, sym, ap, ◌∙◌, arith, Option, List, ℕ, Bool, true, false, not}
use Rattle.std.proofs.lemmas.List.{drop_more}
use Rattle.lv_base.specs.declared.formula.Formula.{Formula}
use Rattle.lv_base.specs.Tree.{tree_of, trees_of}
use Rattle.lv_base.specs.Counts.{whole, gathered, gathered_count, clause_count}
use Rattle.lv_base.proofs.CountLemmas.{counted}
use Rattle.lv_base.proofs.+clause_counts.Goals as goal

-- the first of the operands that are left, whose count is this, and the others
first_left : (sizes : List ℕ) (of_all sign : Bool) (fs : List Formula) (index : ℕ) (f : Formula) (one : Option ℕ) → drop index fs ≡ f ∷ drop (index + 1) fs
    → one ≡ clause_count sizes sign (tree_of f)
    → gathered_count sizes of_all sign (trees_of (map tree_of (drop index fs))) ≡ gathered of_all one (gathered_count sizes of_all sign (trees_of (map tree_of (drop (index + 1) fs))))
first_left sizes of_all sign fs index f one left is =
    ap (λ xs. gathered_count sizes of_all sign (trees_of (map tree_of xs))) left
    ∙ ap (λ (o : Option ℕ). gathered of_all o (gathered_count sizes of_all sign (trees_of (map tree_of (drop (index + 1) fs))))) (sym is)

pub counts::gathered_counts-operands-preserved : goal.counts::gathered_counts-operands-preserved
counts::gathered_counts-operands-preserved t c =
    let fs = c.args.operands.now in
    let sizes = c.args.sizes.now in
    let all = c.args.of_all in
    let index = c.operands.operand-index in
    let f = c.operand-item.result in
    let inside : index < length fs = omega arith in
    let left = drop_more fs index f inside ∙ ap (λ x. x ∷ drop (index + 1) fs) (sym c.operand-item.is) in
    record {
      positive =
          counted all c.operands.positive c.clause_counts-counts.result.when_true c.taken-positive.result
          (gathered_count sizes all true (trees_of (map tree_of (drop (index + 1) fs))))
          (gathered_count sizes all true (trees_of (map tree_of (drop index fs))))
          (whole (gathered_count sizes all true (trees_of (map tree_of fs))))
          c.taken-positive.ensures.is
          (first_left sizes all true fs index f c.clause_counts-counts.result.when_true left c.clause_counts-counts.ensures.when_true)
          c.operands.invariant.positive;
      negative =
          counted (not all) c.operands.negative c.clause_counts-counts.result.when_false c.taken-negative.result
          (gathered_count sizes (not all) false (trees_of (map tree_of (drop (index + 1) fs))))
          (gathered_count sizes (not all) false (trees_of (map tree_of (drop index fs))))
          (whole (gathered_count sizes (not all) false (trees_of (map tree_of fs))))
          c.taken-negative.ensures.is
          (first_left sizes (not all) false fs index f c.clause_counts-counts.result.when_false left c.clause_counts-counts.ensures.when_false)
          c.operands.invariant.negative;
      few_positive = c.taken-positive.ensures.few;
      few_negative = c.taken-negative.ensures.few;
    }
