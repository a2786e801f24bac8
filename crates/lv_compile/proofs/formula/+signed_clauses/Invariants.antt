-- each call is for a smaller formula; in either sign what was gathered and the clauses of the operands that are left give the
-- whole
use Rattle.std.proofs.Common.{◌≡◌, ◌+◌, ◌*◌, true, false, not, map, drop}
use Rattle.lv_base.specs.Tree.{tree_of, trees_of}
use Rattle.lv_compile.specs.FormulaClauses.{gathered_clauses, each_speaks_of}
use Rattle.lv_compile.proofs.GatherLemmas.{IsGathered}
use Rattle.lv_compile.proofs.formula.+signed_clauses.Given as goal

abbrev pub decreases-signed_clauses : goal.decreases-signed_clauses
decreases-signed_clauses l = 3 * goal.size-signed_clauses l

abbrev pub decreases-implication_clauses : goal.decreases-implication_clauses
decreases-implication_clauses l = 3 * goal.size-implication_clauses l + 1

abbrev pub decreases-equivalence_clauses : goal.decreases-equivalence_clauses
decreases-equivalence_clauses l = 3 * goal.size-equivalence_clauses l + 1

abbrev pub decreases-gathered_clauses : goal.decreases-gathered_clauses
decreases-gathered_clauses l = 3 * goal.size-gathered_clauses l + 2

abbrev pub decreases-with_operand : goal.decreases-with_operand
decreases-with_operand l = 3 * goal.size-with_operand l + 1

abbrev pub invariant-gathered_clauses-operands : goal.invariant-gathered_clauses-operands
invariant-gathered_clauses-operands l =
    record {
      positive : IsGathered l.signs.when_true l.of_all l.whole.value.when_true.items (gathered_clauses l.target.bools.now l.target.base l.of_all true (trees_of (map tree_of (drop l.operand-index l.operands)))) (gathered_clauses l.target.bools.now l.target.base l.of_all true (trees_of (map tree_of l.operands)));
      negative : IsGathered l.signs.when_false (not l.of_all) l.whole.value.when_false.items (gathered_clauses l.target.bools.now l.target.base (not l.of_all) false (trees_of (map tree_of (drop l.operand-index l.operands)))) (gathered_clauses l.target.bools.now l.target.base (not l.of_all) false (trees_of (map tree_of l.operands)));
      within : each_speaks_of l.target.bools.now l.target.base (trees_of (map tree_of (drop l.operand-index l.operands))) ≡ true;
    }
