-- in either sign the count so far and the operands that are left come to what all operands come to
use Rattle.std.proofs.Common.{◌≡◌, ◌≤◌, ◌+◌, map, drop, true, false, not}
use Rattle.std.specs.Option.{IfSome}
use Rattle.lv_base.specs.declared.limits.TheConstants.{FORMULA_CLAUSES}
use Rattle.lv_base.specs.Tree.{tree_of, trees_of}
use Rattle.lv_base.specs.Counts.{whole, gathered, gathered_count}
use Rattle.lv_base.proofs.+clause_counts.Given as goal

abbrev pub invariant-counts::gathered_counts-operands :
    goal.invariant-counts::gathered_counts-operands
invariant-counts::gathered_counts-operands l =
    record {
      positive : whole (gathered l.of_all l.positive (gathered_count l.sizes l.of_all true (trees_of (map tree_of (drop l.operand-index l.operands))))) ≡ whole (gathered_count l.sizes l.of_all true (trees_of (map tree_of l.operands)));
      negative : whole (gathered (not l.of_all) l.negative (gathered_count l.sizes (not l.of_all) false (trees_of (map tree_of (drop l.operand-index l.operands))))) ≡ whole (gathered_count l.sizes (not l.of_all) false (trees_of (map tree_of l.operands)));
      few_positive : IfSome l.positive (λ n. n ≤ FORMULA_CLAUSES + 1);
      few_negative : IfSome l.negative (λ n. n ≤ FORMULA_CLAUSES + 1);
    }
