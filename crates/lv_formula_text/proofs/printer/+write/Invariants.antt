-- each call is for a smaller formula
use Rattle.std.proofs.Common.{◌≡◌, ◌+◌, ◌*◌, map, drop}
use Rattle.lv_formula_text.specs.PhraseTree.{tree_of, trees_of}
use Rattle.lv_formula_text.specs.Spacing.{written}
use Rattle.lv_formula_text.specs.Canonical.{operand_tokens}
use Rattle.lv_formula_text.proofs.PrinterLemmas.{tokens_left}
use Rattle.lv_formula_text.proofs.printer.+write.Given as goal

abbrev pub decreases-write : goal.decreases-write
decreases-write l = 3 * goal.size-write l

abbrev pub decreases-write_operand : goal.decreases-write_operand
decreases-write_operand l = 3 * goal.size-write_operand l + 1

abbrev pub decreases-write_operands : goal.decreases-write_operands
decreases-write_operands l = 3 * goal.size-write_operands l + 2

-- the operands that are left, with a sign before the next if it isn't the first
abbrev pub invariant-write_operands-operands : goal.invariant-write_operands-operands
invariant-write_operands-operands l =
    written (tokens_left l.connective l.is_first (trees_of (map tree_of (drop l.operand-index l.operands)))) l.writer
    ≡ written (operand_tokens l.connective (trees_of (map tree_of l.operands))) l.initial.writer
