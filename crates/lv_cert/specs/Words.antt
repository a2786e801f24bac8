-- Words, and what parts them.
use Rattle.std.specs.Prelude.{ℕ, List, Bool, length, nat_eq, nat_lt, not, ◌&&◌}
use Rattle.std.specs.List.{list_all}

abbrev pub is_space : ℕ → Bool
is_space b = nat_eq b 32

abbrev pub is_line_feed : ℕ → Bool
is_line_feed b = nat_eq b 10

-- a byte that no word ends at
abbrev pub is_inside : ℕ → Bool
is_inside b = not (is_space b) && not (is_line_feed b)

abbrev pub has_only_inside : List ℕ → Bool
has_only_inside w = list_all is_inside w

-- bytes that are one word: at least one, without a space or a line feed
abbrev pub is_word : List ℕ → Bool
is_word w = nat_lt 0 (length w) && has_only_inside w
