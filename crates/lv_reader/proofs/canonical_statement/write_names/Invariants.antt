-- the names left are written behind what is written
use Rattle.std.proofs.Common.{◌≡◌, map, drop}
use Rattle.lv_formula_text.specs.Spacing.{written, word}
use Rattle.lv_reader.proofs.canonical_statement.write_names.Given as goal

abbrev pub invariant-names : goal.invariant-names
invariant-names l = written (map word (drop l.name-index l.names)) l.writer ≡ written (map word l.fn.names) l.fn.writer
