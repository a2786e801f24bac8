use Rattle.std.proofs.Common.{◌≡◌, ◌++◌, map, drop}
use Rattle.std.specs.List.{list_all}
use Rattle.lv_text.specs.Numbers.{number_value}
use Rattle.lv_cert.specs.Numbers.{is_positive}
use Rattle.lv_cert.proofs.reading.hints_of.Given as goal

-- what was read, with what is left, is all, and all is well spelled where what is left is
abbrev pub invariant-loop-word : goal.invariant-loop-word
invariant-loop-word l = record {
  values : l.hints.items ++ map number_value (drop l.word-index l.words) ≡ map number_value l.words;
  spelled : list_all is_positive (drop l.word-index l.words) ≡ list_all is_positive l.words;
}
