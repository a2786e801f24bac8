-- The tokens of a line.
use Rattle.std.specs.Prelude.{ℕ, zero, suc, ◌+◌, ◌-◌, ◌≡◌, List, [], ◌∷◌, ◌++◌, length, drop, if◌then◌else◌, nat_lt}
use Rattle.lv_base.specs.declared.limits.TheConstants.{LINE_BYTES}
use Rattle.lv_text.specs.declared.lexer.Token.{Token}
use Rattle.lv_text.specs.declared.lexer.Piece.{Piece}
use Rattle.lv_text.specs.declared.lexer.Piece.TheVariants.{End, Blank, Lexeme, Fault}
use Rattle.lv_text.specs.declared.lexer.TextFault.{TextFault}
use Rattle.lv_text.specs.declared.lexer.TextFault.TheVariants.{LongLine, BadByte, Memory}
use Rattle.lv_text.specs.Pieces.{piece_of}

-- what a line reads as: its tokens in order, or the place of the first byte not allowed, or a line too long
pub data Lexed : Type 0 where
  lexed : List Token → Lexed
  bad_byte : ℕ → Lexed
  long_line : Lexed

-- a token before all others
abbrev pub prepended : Token → Lexed → Lexed
prepended t (lexed ts) = lexed (t ∷ ts)
prepended t (bad_byte p) = bad_byte p
prepended t long_line = long_line

-- what stands at a place, and behind it what `behind` gives, which passes over so many bytes first
abbrev pub piece_tokens : ℕ → Piece → (ℕ → Lexed) → Lexed
piece_tokens place End behind = lexed []
piece_tokens place Blank behind = behind 0
piece_tokens place (Lexeme kind length) behind = prepended (record { kind = kind; start = place; end = place + length }) (behind (length - 1))
piece_tokens place (Fault offset) behind = bad_byte (place + offset)

-- the tokens of the rest of a line that begins at a place, of which so many bytes belong to the token before
abbrev pub tokens_from : ℕ → ℕ → List ℕ → Lexed
tokens_from place passed [] = lexed []
tokens_from place (suc passed) (b ∷ more) = tokens_from (place + 1) passed more
tokens_from place zero (b ∷ more) = piece_tokens place (piece_of (b ∷ more)) (λ passed. tokens_from (place + 1) passed more)

-- the tokens of a line, however long it is
abbrev pub all_tokens : List ℕ → Lexed
all_tokens line = tokens_from 0 0 line

-- the tokens of a line, which is not too long
abbrev pub line_tokens : List ℕ → Lexed
line_tokens line = if nat_lt LINE_BYTES (length line) then long_line else all_tokens line

-- a fault tells what the line reads as; want of memory tells nothing
abbrev pub Tells : TextFault → Lexed → Type 0
Tells LongLine found = found ≡ long_line
Tells (BadByte place) found = found ≡ bad_byte place
Tells Memory found = Unit {0}

-- the tokens of a line from a place on
abbrev pub tokens_at : List ℕ → ℕ → Lexed
tokens_at line place = tokens_from place 0 (drop place line)

-- the same, by the piece that stands at the place
abbrev pub tokens_behind : List ℕ → ℕ → Piece → Lexed
tokens_behind line place End = lexed []
tokens_behind line place Blank = tokens_at line (place + 1)
tokens_behind line place (Lexeme kind length) = prepended (record { kind = kind; start = place; end = place + length }) (tokens_at line (place + length))
tokens_behind line place (Fault offset) = bad_byte (place + offset)

-- tokens found before, in front of what is found later
abbrev pub joined : List Token → Lexed → Lexed
joined ts (lexed us) = lexed (ts ++ us)
joined ts (bad_byte p) = bad_byte p
joined ts long_line = long_line
