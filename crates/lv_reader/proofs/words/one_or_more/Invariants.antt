use Rattle.std.proofs.Common.{◌≡◌, ◌-◌, length, drop}
use Rattle.lv_reader.specs.Words.{alternatives, one_or_more}
use Rattle.lv_reader.proofs.WordLists.{joined_words}
use Rattle.lv_reader.proofs.words.one_or_more.Given as goal

-- the names taken and those that are left are all
abbrev pub invariant-others : goal.invariant-others
invariant-others l = joined_words l.names.items (alternatives (drop l.place l.line)) ≡ one_or_more l.line

abbrev pub decreases-others : goal.decreases-others
decreases-others l = length l.line - l.place
