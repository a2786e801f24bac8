-- What a refuter told, by which of the two it is.
use Rattle.std.specs.Prelude.{Bool, true, false}
use Rattle.lv_cert_writing.specs.declared.refuter.Refuted.{Refuted}
use Rattle.lv_cert_writing.specs.declared.refuter.Refuted.TheVariants.{Values, Lines}

abbrev pub are_values : Refuted → Bool
are_values (Values values) = true
are_values (Lines lines) = false

abbrev pub are_lines : Refuted → Bool
are_lines (Values values) = false
are_lines (Lines lines) = true
