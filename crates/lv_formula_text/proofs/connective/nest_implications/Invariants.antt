-- what is left of the operands, and behind them what the others make, make the whole
use Rattle.std.proofs.Common.{◌≡◌, [], ◌∷◌, ◌++◌, length, map}
use Rattle.lv_formula_text.specs.PhraseTree.{tree_of}
use Rattle.lv_formula_text.specs.Connectives.{joined}
use Rattle.lv_formula_text.specs.declared.connective.Connective.TheVariants.{Implication}
use Rattle.lv_formula_text.proofs.connective.nest_implications.Given as goal

abbrev pub invariant-operands : goal.invariant-operands
invariant-operands l = joined Implication (map tree_of l.operands.items ++ tree_of l.whole ∷ []) ≡ joined Implication (map tree_of l.fn.operands.items)

abbrev pub decreases-operands : goal.decreases-operands
decreases-operands l = length l.operands.items
