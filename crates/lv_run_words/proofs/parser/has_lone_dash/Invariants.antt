-- What is left gives the whole.
use Rattle.std.proofs.Common.{◌≡◌, drop}
use Rattle.std.specs.Prelude.{string_bytes}
use Rattle.lv_run_words.specs.Parser.{has_lone_by}
use Rattle.lv_run_words.proofs.parser.has_lone_dash.Given as goal

abbrev pub invariant-loop-word : goal.invariant-loop-word
invariant-loop-word l = record { rest : has_lone_by string_bytes (drop l.word-index l.words) ≡ has_lone_by string_bytes l.fn.words }
