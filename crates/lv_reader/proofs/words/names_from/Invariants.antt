use Rattle.std.proofs.Common.{◌≡◌, drop}
use Rattle.lv_reader.specs.Words.{words_of}
use Rattle.lv_reader.proofs.WordLists.{joined_words}
use Rattle.lv_reader.proofs.words.names_from.Given as goal

-- the words taken and those that are left are all words
abbrev pub invariant-loop-at : goal.invariant-loop-at
invariant-loop-at l = joined_words l.names.items (words_of (drop l.at l.line)) ≡ words_of (drop l.place l.line)
