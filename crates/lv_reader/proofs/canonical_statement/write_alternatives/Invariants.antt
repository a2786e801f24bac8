-- the names left are written behind what is written
use Rattle.std.proofs.Common.{◌≡◌, drop}
use Rattle.std.specs.List.{flat_map}
use Rattle.lv_formula_text.specs.Spacing.{written}
use Rattle.lv_reader.specs.CanonicalTokens.{alternative_tokens}
use Rattle.lv_reader.proofs.canonical_statement.write_alternatives.Given as goal

abbrev pub invariant-modes : goal.invariant-modes
invariant-modes l = written (flat_map alternative_tokens (drop l.mode-index l.modes)) l.writer ≡ written (flat_map alternative_tokens l.fn.modes) l.fn.writer
