-- The lines of a whole text.
use Rattle.std.specs.Prelude.{ℕ, ◌+◌, ◌<◌, ◌≤◌, ◌≡◌, List, [], ◌∷◌, Bool, length, take, drop, map, position, nat_eq, if◌then◌else◌, Option}
use Rattle.std.specs.Option.{option_map}
use Rattle.std.specs.List.{onto_first}
use Rattle.std.specs.Str.Lines.{strip_carriage_return}

-- the byte that ends a line
abbrev pub is_line_feed : ℕ → Bool
is_line_feed b = nat_eq b 10

-- the parts of a text that line feeds end, and what stands behind the last of them, if anything does
abbrev pub unended_lines : List ℕ → List (List ℕ)
unended_lines [] = []
unended_lines (b ∷ more) = if is_line_feed b then [] ∷ unended_lines more else onto_first b (unended_lines more)

-- the lines of a text, each without its end: one carriage return at the end of a line belongs to the end
abbrev pub lines_of : List ℕ → List (List ℕ)
lines_of text = map strip_carriage_return (unended_lines text)

-- the length of the first line without its end and with it, where a line feed ends it
abbrev pub first_ended_line : List ℕ → Option (ℕ × ℕ)
first_ended_line text = option_map (λ n. (length (strip_carriage_return (take n text)), n + 1)) (position is_line_feed text)

-- a text begins with a line that has `shown` bytes without its end and `whole` with it
pub record BeginsWithLine (text : List ℕ) (shown whole : ℕ) : Type 0 where
  pub lines : lines_of text ≡ take shown text ∷ lines_of (drop whole text)
  pub moves : 0 < whole
  pub within : shown ≤ whole
  pub inside : whole ≤ length text
