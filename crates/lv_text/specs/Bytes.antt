-- The classes of bytes that lines are made of.
use Rattle.std.specs.Prelude.{ℕ, Bool, ◌||◌, nat_eq, codes}
use Rattle.std.specs.List.{list_any}
use Rattle.std.specs.Char.{is_ascii_alphabetic, is_ascii_digit}

-- a letter of ASCII or `_`
abbrev pub is_letter : ℕ → Bool
is_letter b = is_ascii_alphabetic b || nat_eq b 95

-- a decimal digit
abbrev pub is_digit : ℕ → Bool
is_digit b = is_ascii_digit b

-- what a word goes on with
abbrev pub is_word_byte : ℕ → Bool
is_word_byte b = is_letter b || is_digit b

-- a space or a tab
abbrev pub is_blank : ℕ → Bool
is_blank b = nat_eq b 32 || nat_eq b 9

-- the byte that begins a comment, `#`
abbrev pub is_comment_mark : ℕ → Bool
is_comment_mark b = nat_eq b 35

-- a byte that stands in a symbol
abbrev pub is_symbol_byte : ℕ → Bool
is_symbol_byte b = list_any (nat_eq b) (codes "<=>-!&|().")
