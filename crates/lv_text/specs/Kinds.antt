-- What the bytes of a token are: its place in the line, and its text by its kind.
use Rattle.std.specs.Prelude.{ℕ, ◌<◌, ◌≤◌, ◌≡◌, List, [], ◌∷◌, Bool, true, ◌&&◌, length, take, nat_eq, nat_le, nat_lt, slice_index, slice_range, codes}
use Rattle.std.specs.List.{list_all}
use Rattle.std.specs.Cmp.Lexicographic.{pointwise}
use Rattle.lv_text.specs.declared.lexer.TokenKind.{TokenKind}
use Rattle.lv_text.specs.declared.lexer.TokenKind.TheVariants.{Word, Number, Iff, Implies, Arrow, Equals, Not, And, Or, Open, Close, Dot}
use Rattle.lv_text.specs.declared.lexer.Token.{Token}
use Rattle.lv_text.specs.declared.lexer.Piece.{Piece}
use Rattle.lv_text.specs.declared.lexer.Piece.TheVariants.{End, Blank, Lexeme, Fault}
use Rattle.lv_text.specs.Bytes.{is_letter, is_digit, is_word_byte}

-- the bytes of a token
abbrev pub token_text : List ℕ → Token → List ℕ
token_text line t = slice_range line t.start t.end

-- a text that a token of that kind may have; past the end `slice_index` is 0, which is no letter and no digit
abbrev pub has_kind : TokenKind → List ℕ → Bool
has_kind Word text = is_letter (slice_index text 0) && list_all is_word_byte text
has_kind Number text = is_digit (slice_index text 0) && list_all is_digit text
has_kind Iff text = pointwise nat_eq (codes "<=>") text
has_kind Implies text = pointwise nat_eq (codes "=>") text
has_kind Arrow text = pointwise nat_eq (codes "->") text
has_kind Equals text = pointwise nat_eq (codes "=") text
has_kind Not text = pointwise nat_eq (codes "!") text
has_kind And text = pointwise nat_eq (codes "&") text
has_kind Or text = pointwise nat_eq (codes "|") text
has_kind Open text = pointwise nat_eq (codes "(") text
has_kind Close text = pointwise nat_eq (codes ")") text
has_kind Dot text = pointwise nat_eq (codes ".") text

-- a byte of ASCII
abbrev pub is_ascii_byte : ℕ → Bool
is_ascii_byte b = nat_lt b 128

-- a token of a line: a part of it with a text of its kind, which is ASCII
pub record IsTokenOf (line : List ℕ) (t : Token) : Type 0 where
  pub begins : t.start < t.end
  pub ends : t.end ≤ length line
  pub text : has_kind t.kind (token_text line t) ≡ true
  pub ascii : list_all is_ascii_byte (token_text line t) ≡ true

-- tokens follow one on the other, the first not before a place
abbrev pub follow_on : ℕ → List Token → Bool
follow_on place [] = true
follow_on place (t ∷ ts) = nat_le place t.start && follow_on t.end ts

-- a piece lies within the rest of the line that begins with it, and a token has a text of its kind
abbrev pub BeginsWith : List ℕ → Piece → Type 0
BeginsWith rest End = Unit {0}
BeginsWith rest Blank = 0 < length rest
BeginsWith rest (Lexeme kind n) = (0 < n) × (n ≤ length rest) × (has_kind kind (take n rest) ≡ true)
BeginsWith rest (Fault n) = n < length rest
