-- what is left of the signs makes of the formula so far what all make of the first
use Rattle.std.proofs.Common.{◌≡◌}
use Rattle.lv_formula_text.specs.PhraseTree.{tree_in}
use Rattle.lv_formula_text.specs.Connectives.{negations}
use Rattle.lv_formula_text.proofs.parser.negated.Given as goal

abbrev pub invariant-signs : goal.invariant-signs
invariant-signs l = negations l.left (tree_in l.whole) ≡ negations l.fn.signs (tree_in l.fn.node)

abbrev pub decreases-signs : goal.decreases-signs
decreases-signs l = l.left
