-- each call is for a smaller formula; the copies so far and the formulas left are the whole
use Rattle.std.proofs.Common.{◌≡◌, ◌+◌, ◌*◌, ◌++◌, map, drop}
use Rattle.lv_base.specs.Tree.{tree_of}
use Rattle.lv_base.proofs.copies.+copy.Given as goal

abbrev pub decreases-copy_of : goal.decreases-copy_of
decreases-copy_of l = 3 * goal.size-copy_of l

abbrev pub decreases-conjunction_of : goal.decreases-conjunction_of
decreases-conjunction_of l = 3 * goal.size-conjunction_of l + 2

abbrev pub decreases-disjunction_of : goal.decreases-disjunction_of
decreases-disjunction_of l = 3 * goal.size-disjunction_of l + 2

abbrev pub decreases-copies_of : goal.decreases-copies_of
decreases-copies_of l = 3 * goal.size-copies_of l + 1

abbrev pub invariant-copies_of-formulas : goal.invariant-copies_of-formulas
invariant-copies_of-formulas l = map tree_of l.copies.items ++ map tree_of (drop l.formula-index l.formulas) ≡ map tree_of l.formulas
