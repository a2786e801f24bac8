-- A text cut at its last line feed.
use Rattle.std.specs.Prelude.{ℕ, List, [], ◌∷◌, if◌then◌else◌}
use Rattle.std.specs.List.{list_any}
use Rattle.lv_text.specs.Lines.{is_line_feed}

-- a text up to its last line feed, with it: the lines that have ended; nothing where there is none
abbrev pub ended : List ℕ → List ℕ
ended [] = []
ended (b ∷ more) = if list_any is_line_feed (b ∷ more) then b ∷ ended more else []

-- what stands behind its last line feed: the front of a line that hasn't ended
abbrev pub unended : List ℕ → List ℕ
unended [] = []
unended (b ∷ more) = if list_any is_line_feed (b ∷ more) then unended more else b ∷ more
