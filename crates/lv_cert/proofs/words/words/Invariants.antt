use Rattle.std.proofs.Common.{◌≡◌, ◌++◌, length}
use Rattle.std.specs.List.{slice_split}
use Rattle.lv_cert.specs.Words.{is_space}
use Rattle.lv_cert.proofs.words.words.Given as goal

-- the words so far, with those of what is left, are all words
abbrev pub invariant-loop-word : goal.invariant-loop-word
invariant-loop-word l = l.words.items ++ slice_split is_space l.rest ≡ slice_split is_space l.line

abbrev pub decreases-loop-word : goal.decreases-loop-word
decreases-loop-word l = length l.rest
