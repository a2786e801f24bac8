-- The lexemes of a line: its tokens as those above see them, without their places.
use Rattle.std.specs.Prelude.{ℕ, ◌≡◌, List, Bool, true, false, map, slice_get, if◌then◌else◌, Option, Some, None, option_map}
use Rattle.std.specs.Option.{option_and_then, option_map_or}
use Rattle.lv_base.specs.Names.{is_named}
use Rattle.lv_text.specs.declared.lexer.TokenKind.{TokenKind}
use Rattle.lv_text.specs.declared.lexer.TokenKind.TheVariants.{Word, Number}
use Rattle.lv_text.specs.declared.lexer.Token.{Token}
use Rattle.lv_text.specs.declared.lexer.TextFault.{TextFault}
use Rattle.lv_text.specs.declared.lexer.TextFault.TheVariants.{LongLine, BadByte, Memory}
use Rattle.lv_text.specs.Kinds.{token_text}
use Rattle.lv_text.specs.Numbers.{number_in_range}
use Rattle.lv_text.specs.Tokens.{Lexed, lexed, bad_byte, long_line, line_tokens}

-- a token's kind and the bytes of its text
pub record Lexeme : Type 0 where
  pub kind : TokenKind
  pub text : List ℕ

-- a token of a line, without its place
abbrev pub lexeme_of : List ℕ → Token → Lexeme
lexeme_of line t = record { kind = t.kind; text = token_text line t }

-- the tokens of a line, without their places
abbrev pub lexemes_of : List ℕ → List Token → List Lexeme
lexemes_of line ts = map (lexeme_of line) ts

-- what a line reads as: its lexemes in order, or the place of the first byte not allowed, or a line too long
pub data Reading : Type 0 where
  reads : List Lexeme → Reading
  has_bad_byte : ℕ → Reading
  is_too_long : Reading

-- what a line reads as, by its tokens
abbrev pub reading_by : List ℕ → Lexed → Reading
reading_by line (lexed ts) = reads (lexemes_of line ts)
reading_by line (bad_byte place) = has_bad_byte place
reading_by line long_line = is_too_long

-- what a line reads as
abbrev pub line_reading : List ℕ → Reading
line_reading line = reading_by line (line_tokens line)

-- a fault tells what the line reads as; want of memory tells nothing
abbrev pub Explains : TextFault → Reading → Type 0
Explains LongLine found = found ≡ is_too_long
Explains (BadByte place) found = found ≡ has_bad_byte place
Explains Memory found = Unit {0}

abbrev pub is_word : TokenKind → Bool
is_word Word = true
is_word kind = false

abbrev pub is_number : TokenKind → Bool
is_number Number = true
is_number kind = false

-- a lexeme's text, if it is a word
abbrev pub word_of : Lexeme → Option (List ℕ)
word_of l = if is_word l.kind then Some l.text else None

-- a lexeme's value, if it is a number below 2 ^ 128
abbrev pub number_of : Lexeme → Option ℕ
number_of l = if is_number l.kind then number_in_range l.text else None

-- the kind of the token at a place, counted from 0
abbrev pub kind_at : List Lexeme → ℕ → Option TokenKind
kind_at ls place = option_map (λ (l : Lexeme). l.kind) (slice_get ls place)

-- the text of the token at a place
abbrev pub text_at : List Lexeme → ℕ → Option (List ℕ)
text_at ls place = option_map (λ (l : Lexeme). l.text) (slice_get ls place)

-- the word at a place
abbrev pub word_at : List Lexeme → ℕ → Option (List ℕ)
word_at ls place = option_and_then word_of (slice_get ls place)

-- the value of the number at a place
abbrev pub number_at : List Lexeme → ℕ → Option ℕ
number_at ls place = option_and_then number_of (slice_get ls place)

-- the word at a place is that one; a number or a symbol is no word
abbrev pub says : List ℕ → List Lexeme → ℕ → Bool
says text ls place = option_map_or (is_named text) (word_at ls place) false
