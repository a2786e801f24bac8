-- Which front of a line is kept, and what line that shows.
use Rattle.std.specs.Prelude.{ℕ, List, length, take, nat_lt, if◌then◌else◌}
use Rattle.std.specs.Str.Lines.{strip_carriage_return}
use Rattle.lv_serve.specs.Kept.{Kept, most_kept}

-- what is kept of a line
abbrev pub kept_of : List ℕ → Kept
kept_of line = record { bytes = take most_kept line; is_longer = nat_lt most_kept (length line) }

-- the line that it shows, once it has ended: a carriage return at its end belongs to that
abbrev pub shown : Kept → List ℕ
shown kept = if kept.is_longer then kept.bytes else strip_carriage_return kept.bytes
