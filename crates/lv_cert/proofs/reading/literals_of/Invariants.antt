use Rattle.std.proofs.Common.{◌≡◌, ◌++◌, map, drop}
use Rattle.std.specs.List.{list_all}
use Rattle.lv_cert.specs.Numbers.{literal_value, is_literal}
use Rattle.lv_cert.proofs.reading.literals_of.Given as goal

-- what was read, with what is left, is all, and all is well spelled where what is left is
abbrev pub invariant-loop-word : goal.invariant-loop-word
invariant-loop-word l = record {
  values : l.literals.items ++ map literal_value (drop l.word-index l.words) ≡ map literal_value l.words;
  spelled : list_all is_literal (drop l.word-index l.words) ≡ list_all is_literal l.words;
}
