-- What holds of tokens and lines whatever the text.
use Rattle.std.specs.Prelude.{ℕ, ◌+◌, ◌<◌, ◌≤◌, ◌≡◌, ◌^◌, List, [], ◌∷◌, ◌++◌, Bool, true, false, not, length, map, All, nat_eq, decimal, ◌-◌, ◌||◌, ◌&&◌, nat_lt, slice_index, slice_range, drop, if◌then◌else◌, codes}
use Rattle.std.specs.List.{list_all, list_any, starts_with}
use Rattle.std.specs.Str.Lines.{strip_carriage_return}
use Rattle.lv_base.specs.declared.limits.TheConstants.{LINE_BYTES}
use Rattle.lv_text.specs.declared.lexer.TokenKind.{TokenKind}
use Rattle.lv_text.specs.declared.lexer.TokenKind.TheVariants.{Word, Number, Equals}
use Rattle.lv_text.specs.declared.lexer.Token.{Token}
use Rattle.lv_text.specs.Bytes.{is_blank, is_comment_mark, is_digit, is_letter, is_word_byte}
use Rattle.lv_text.specs.Kinds.{has_kind, is_ascii_byte, token_text}
use Rattle.lv_text.specs.Lexemes.{Lexeme, reads, line_reading, is_word, is_number}
use Rattle.lv_text.specs.Lines.{is_line_feed, lines_of, first_ended_line}
use Rattle.lv_text.specs.Numbers.{number_value}
use Rattle.lv_text.specs.Tokens.{Lexed, lexed, bad_byte, long_line, prepended, joined, all_tokens, line_tokens}

-- a token of that kind at that place
abbrev pub token_at : TokenKind → ℕ → ℕ → Token
token_at kind start end = record { kind = kind; start = start; end = end }

-- a token, so many bytes further on
abbrev pub moved_token : ℕ → Token → Token
moved_token n t = record { kind = t.kind; start = n + t.start; end = n + t.end }

-- what a text reads as, so many bytes further on
abbrev pub moved : ℕ → Lexed → Lexed
moved n (lexed ts) = lexed (map (moved_token n) ts)
moved n (bad_byte p) = bad_byte (n + p)
moved n long_line = long_line

-- what is read first, and what is read behind it; the first fault counts
abbrev pub followed : Lexed → Lexed → Lexed
followed (lexed ts) found = joined ts found
followed (bad_byte p) found = bad_byte p
followed long_line found = long_line

-- what stands behind a token of that kind doesn't go on with it
abbrev pub ends_token : TokenKind → List ℕ → Bool
ends_token kind [] = true
ends_token Word (b ∷ rest) = not (is_word_byte b)
ends_token Number (b ∷ rest) = not (is_word_byte b)
ends_token Equals (b ∷ rest) = not (nat_eq b 62)
ends_token kind (b ∷ rest) = true

-- a comment behind a line changes nothing, if the line is not too long by it
abbrev pub CommentChangesNothing : Type 0
CommentChangesNothing = (line comment : List ℕ) → length (line ++ 35 ∷ comment) ≤ LINE_BYTES → line_tokens (line ++ 35 ∷ comment) ≡ line_tokens line

-- nor does it change what those above see of the line
abbrev pub CommentKeepsReading : Type 0
CommentKeepsReading = (line comment : List ℕ) → length (line ++ 35 ∷ comment) ≤ LINE_BYTES → line_reading (line ++ 35 ∷ comment) ≡ line_reading line

-- a blank that is in no comment only parts what stands before it from what stands behind it
abbrev pub BlankParts : Type 0
BlankParts = (front back : List ℕ) (b : ℕ) → is_blank b ≡ true → list_any is_comment_mark front ≡ false
    → all_tokens (front ++ b ∷ back) ≡ followed (all_tokens front) (moved (length front + 1) (all_tokens back))

-- a line of blanks has no tokens
abbrev pub BlankLineIsEmpty : Type 0
BlankLineIsEmpty = (line : List ℕ) → list_all is_blank line ≡ true → all_tokens line ≡ lexed []

-- a text of a kind is a token of that kind, if what stands behind it doesn't go on with it
abbrev pub TextIsToken : Type 0
TextIsToken = (kind : TokenKind) (text rest : List ℕ) → has_kind kind text ≡ true → ends_token kind rest ≡ true
    → all_tokens (text ++ rest) ≡ prepended (token_at kind 0 (length text)) (moved (length text) (all_tokens rest))

-- a line feed ends a line
abbrev pub LineFeedEndsLine : Type 0
LineFeedEndsLine = (line rest : List ℕ) → list_any is_line_feed line ≡ false → lines_of (line ++ 10 ∷ rest) ≡ strip_carriage_return line ∷ lines_of rest

-- exactly one carriage return goes with the line feed
abbrev pub ReturnGoesWithLineFeed : Type 0
ReturnGoesWithLineFeed = (line rest : List ℕ) → list_any is_line_feed line ≡ false → lines_of (line ++ 13 ∷ 10 ∷ rest) ≡ line ∷ lines_of rest

-- the end of the text ends a line, if anything stands before it
abbrev pub EndOfTextEndsLine : Type 0
EndOfTextEndsLine = (line : List ℕ) → list_any is_line_feed line ≡ false → 0 < length line → lines_of line ≡ strip_carriage_return line ∷ []

-- a number as it is printed is digits, and has its own value
abbrev pub PrintedNumberIsItself : Type 0
PrintedNumberIsItself = (n : ℕ) → n < 2 ^ 64 → (list_all is_digit (decimal n) ≡ true) × (number_value (decimal n) ≡ n)

-- the lines up to a line feed, and then those behind it
abbrev pub LinesPartAtLineFeed : Type 0
LinesPartAtLineFeed = (text rest : List ℕ) → lines_of (text ++ 10 ∷ rest) ≡ lines_of (text ++ 10 ∷ []) ++ lines_of rest

-- a line that has ended stays as it is, whatever comes behind it
abbrev pub FirstLineStays : Type 0
FirstLineStays = (text more : List ℕ) → list_any is_line_feed text ≡ true → first_ended_line (text ++ more) ≡ first_ended_line text

-- the text of a token is the same further on in a longer line
abbrev pub TextMovesWithToken : Type 0
TextMovesWithToken = (front line : List ℕ) (t : Token) → token_text (front ++ line) (moved_token (length front) t) ≡ token_text line t

-- and whatever stands behind the line
abbrev pub TextStaysBeforeMore : Type 0
TextStaysBeforeMore = (line more : List ℕ) (t : Token) → t.start ≤ t.end → t.end ≤ length line → token_text (line ++ more) t ≡ token_text line t

-- the texts of the symbols
abbrev pub symbol_texts : List (List ℕ)
symbol_texts = codes "<=>" ∷ codes "=>" ∷ codes "->" ∷ codes "=" ∷ codes "!" ∷ codes "&" ∷ codes "|" ∷ codes "(" ∷ codes ")" ∷ codes "." ∷ []

-- a blank, a comment or a token begins a text
abbrev pub begins_something : List ℕ → Bool
begins_something text =
    is_blank (slice_index text 0) || is_comment_mark (slice_index text 0) || is_word_byte (slice_index text 0) || list_any (starts_with nat_eq text) symbol_texts

-- a byte that is not allowed: a letter behind a digit, or a byte that begins nothing
abbrev pub is_not_allowed : List ℕ → ℕ → Bool
is_not_allowed line p =
    if is_letter (slice_index line p) then nat_lt 0 p && is_digit (slice_index line (p - 1)) else not (begins_something (drop p line))

-- the byte told as bad stands in the line, and is not allowed there
abbrev pub BadByteIsNotAllowed : Type 0
BadByteIsNotAllowed = (line : List ℕ) (p : ℕ) → all_tokens line ≡ bad_byte p → (p < length line) × (is_not_allowed line p ≡ true)

-- only blanks, up to a comment or the end
abbrev pub blank_to_comment : List ℕ → Bool
blank_to_comment [] = true
blank_to_comment (b ∷ more) = is_comment_mark b || (is_blank b && blank_to_comment more)

-- from a place on only blanks stand before a token and between it and the next; behind the last a comment may follow
abbrev pub leave_blanks : List ℕ → ℕ → List Token → Bool
leave_blanks line place [] = blank_to_comment (drop place line)
leave_blanks line place (t ∷ ts) = list_all is_blank (slice_range line place t.start) && leave_blanks line t.end ts

-- the tokens of a line leave nothing of it but blanks and a comment
abbrev pub TokensLeaveBlanks : Type 0
TokensLeaveBlanks = (line : List ℕ) (ts : List Token) → all_tokens line ≡ lexed ts → leave_blanks line 0 ts ≡ true

-- a lexeme's text is one of its kind, and is ASCII
pub record IsLexeme (l : Lexeme) : Type 0 where
  pub kind : has_kind l.kind l.text ≡ true
  pub ascii : list_all is_ascii_byte l.text ≡ true

-- the lexemes of a line are such
abbrev pub LexemesHaveKinds : Type 0
LexemesHaveKinds = (line : List ℕ) (ls : List Lexeme) → line_reading line ≡ reads ls → All IsLexeme ls

-- a word or a number
abbrev pub is_word_or_number : Lexeme → Bool
is_word_or_number l = is_word l.kind || is_number l.kind

-- what stands between two neighbours: one space, if each is a word or a number, else nothing
abbrev pub gap_between : Lexeme → Lexeme → List ℕ
gap_between l m = if is_word_or_number l && is_word_or_number m then 32 ∷ [] else []

-- lexemes as they are printed, with no more spaces than needed
abbrev pub printed : List Lexeme → List ℕ
printed [] = []
printed (l ∷ []) = l.text
printed (l ∷ m ∷ more) = l.text ++ (gap_between l m ++ printed (m ∷ more))

-- lexemes that are printed are read again, if the line is not too long
abbrev pub PrintedIsReadAgain : Type 0
PrintedIsReadAgain = (ls : List Lexeme) → All IsLexeme ls → length (printed ls) ≤ LINE_BYTES → line_reading (printed ls) ≡ reads ls
