-- The canonical line of a statement, by itself and among others.
use Rattle.std.proofs.Common.{◌≡◌, ℕ, zero, suc, ◌-◌, ◌≤◌, Bool, true, false, ◌&&◌, cond, nat_eq, nat_lt, List, [], ◌∷◌, ◌++◌, length, map, get_or, All, Option, Some, None, refl, sym, ap, subst, ◌∙◌, arith, append_assoc, length-append, decimal, codes}
use Rattle.std.proofs.lemmas.Bool.{and_parts, and_from, or_from}
use Rattle.std.proofs.lemmas.Bool.Decides.{nat_tests}
use Rattle.std.proofs.lemmas.Fmt.{length-decimal-le}
use Rattle.std.proofs.lemmas.List.Folds.{list_all-append}
use Rattle.std.proofs.lemmas.List.Elements.{All-nil, All-cons, All-head, All-tail}
use Rattle.std.specs.List.{list_all, list_any, flat_map}
use Rattle.std.specs.Cmp.Lexicographic.{pointwise, same_text}
use Rattle.std.specs.Str.Lines.{strip_carriage_return}
use Rattle.lv_base.specs.declared.limits.TheConstants.{LINE_BYTES}
use Rattle.lv_text.specs.declared.lexer.TokenKind.{TokenKind}
use Rattle.lv_text.specs.declared.lexer.TokenKind.TheVariants.{Word, Number, Iff, Implies, Arrow, Equals, Not, And, Or, Open, Close, Dot}
use Rattle.lv_text.specs.Bytes.{is_word_byte, is_digit}
use Rattle.lv_text.specs.Kinds.{has_kind}
use Rattle.lv_text.specs.Lexemes.{Lexeme, Reading, reads, has_bad_byte, is_too_long, reading_by, line_reading}
use Rattle.lv_text.specs.Lines.{is_line_feed, lines_of}
use Rattle.lv_text.specs.Tokens.{long_line, all_tokens}
use Rattle.lv_text.specs.Laws.{IsLexeme}
use Rattle.lv_text.proofs.Choices.{list_all-weaker}
use Rattle.lv_text.proofs.LineLaws.{line_feed_ends}
use Rattle.lv_text.proofs.ReadBack.{lexemes_have}
use Rattle.lv_formula_text.specs.Spacing.{is_wordlike, spaced, word}
use Rattle.lv_formula_text.proofs.SpacedLines.{spaced_again, line_no_shorter}
use Rattle.lv_reader.specs.declared.version.TheConstants.{NEWEST}
use Rattle.lv_reader.specs.declared.version.Version.{Version}
use Rattle.lv_reader.specs.declared.version.Version.TheVariants.{One, Two}
use Rattle.lv_reader.specs.declared.statement.Statement.{Statement}
use Rattle.lv_reader.specs.declared.statement.Statement.TheVariants.{VersionLine}
use Rattle.lv_reader.specs.Keywords.{keyword_of}
use Rattle.lv_reader.specs.Statements.{HasForm, IsStatement}
use Rattle.lv_reader.specs.declared.fault.LineFault.{LineFault}
use Rattle.lv_reader.specs.declared.fault.LineFault.TheVariants.{Refused, Memory}
use Rattle.lv_reader.specs.Lines.{Says, SaysOf, SaysBy, RefusedOf, TellsSome, Tells}
use Rattle.lv_reader.specs.CanonicalTokens.{number, statement_tokens, statement_text}
use Rattle.lv_reader.specs.CanonicalTexts.{default_name, ended_line}
use Rattle.lv_reader.proofs.Numerals.{number_told, number_is_lexeme}
use Rattle.lv_reader.proofs.Statements.{reprinted}

-- neither a line feed nor a carriage return
abbrev is_printed_byte : ℕ → Bool
is_printed_byte b = nat_lt 31 b

word_byte_prints : (b : ℕ) → is_word_byte b ≡ true → is_printed_byte b ≡ true
word_byte_prints b h = grind (arith, nat_tests)

digit_prints : (b : ℕ) → is_digit b ≡ true → is_printed_byte b ≡ true
digit_prints b h = grind (arith, nat_tests)

symbol_prints : (needle text : List ℕ) → list_all is_printed_byte needle ≡ true → pointwise nat_eq needle text ≡ true → list_all is_printed_byte text ≡ true
symbol_prints needle text prints h = subst (λ t. list_all is_printed_byte t ≡ true) (same_text needle text (sym h)) prints

text_prints : (k : TokenKind) (text : List ℕ) → has_kind k text ≡ true → list_all is_printed_byte text ≡ true
text_prints Word text h = list_all-weaker is_word_byte is_printed_byte word_byte_prints text ((and_parts _ _ h).1)
text_prints Number text h = list_all-weaker is_digit is_printed_byte digit_prints text ((and_parts _ _ h).1)
text_prints Iff text h = symbol_prints (codes "<=>") text refl h
text_prints Implies text h = symbol_prints (codes "=>") text refl h
text_prints Arrow text h = symbol_prints (codes "->") text refl h
text_prints Equals text h = symbol_prints (codes "=") text refl h
text_prints Not text h = symbol_prints (codes "!") text refl h
text_prints And text h = symbol_prints (codes "&") text refl h
text_prints Or text h = symbol_prints (codes "|") text refl h
text_prints Open text h = symbol_prints (codes "(") text refl h
text_prints Close text h = symbol_prints (codes ")") text refl h
text_prints Dot text h = symbol_prints (codes ".") text refl h

gap_prints : (b : Bool) → list_all is_printed_byte (cond b (codes " ") []) ≡ true
gap_prints true = refl
gap_prints false = refl

spaced_prints : (after : Bool) (ts : List Lexeme) → All IsLexeme ts → list_all is_printed_byte (spaced after ts) ≡ true
spaced_prints after [] h = refl
spaced_prints after (t ∷ ts) h =
    let one : IsLexeme t = All-head IsLexeme t ts h in
    let others = spaced_prints (is_wordlike t.kind) ts (All-tail IsLexeme t ts h) in
    list_all-append is_printed_byte (cond (after && is_wordlike t.kind) (codes " ") []) (t.text ++ spaced (is_wordlike t.kind) ts)
    ∙ and_from _ _ (gap_prints (after && is_wordlike t.kind))
    (list_all-append is_printed_byte t.text (spaced (is_wordlike t.kind) ts) ∙ and_from _ _ (text_prints t.kind t.text one.kind) others)

-- so it is one line
no_feed : (xs : List ℕ) → list_all is_printed_byte xs ≡ true → list_any is_line_feed xs ≡ false
no_feed [] h = refl
no_feed (x ∷ xs) h =
    let parts = and_parts (is_printed_byte x) (list_all is_printed_byte xs) h in
    or_from _ _ (no_feed_at x parts.0) (no_feed xs parts.1)
  where
    no_feed_at : (b : ℕ) → is_printed_byte b ≡ true → is_line_feed b ≡ false
    no_feed_at b e = grind (arith, nat_tests)

no_return_at : (xs : List ℕ) (i : ℕ) → list_all is_printed_byte xs ≡ true → nat_eq (get_or xs i 0) 13 ≡ false
no_return_at [] zero h = refl
no_return_at [] (suc i) h = refl
no_return_at (x ∷ xs) zero h = let first = (and_parts (is_printed_byte x) (list_all is_printed_byte xs) h).0 in by x first
  where
    by : (b : ℕ) → is_printed_byte b ≡ true → nat_eq b 13 ≡ false
    by b e = grind (arith, nat_tests)
no_return_at (x ∷ xs) (suc i) h = no_return_at xs i ((and_parts (is_printed_byte x) (list_all is_printed_byte xs) h).1)

no_return : (xs : List ℕ) → list_all is_printed_byte xs ≡ true → strip_carriage_return xs ≡ xs
no_return xs h = rw (no_return_at xs (length xs - 1) h) refl

-- a statement whose canonical line says it in a text of the version
pub record IsPrinted (v : Version) (s : Statement) : Type 0 where
  pub says : Says v (statement_text s) (Some s)
  pub prints : list_all is_printed_byte (statement_text s) ≡ true

tokens_say : (v : Version) (s : Statement) → All IsLexeme (statement_tokens s) → length (statement_text s) ≤ LINE_BYTES → IsStatement v (statement_tokens s) s → IsPrinted v s
tokens_say v s h le is = record {
  says = subst (λ found. SaysOf v found (Some s)) (sym (spaced_again (statement_tokens s) h le)) is;
  prints = spaced_prints false (statement_tokens s) h;
}

-- what is a statement of the first version is one of the second
statement_kept : (line : List Lexeme) (said : Option Statement) → SaysBy One line said → SaysBy Two line said
statement_kept line None h = h
statement_kept line (Some s) h = record { shallow = h.shallow; form = h.form; known = refl; number = h.number }

said_kept : (r : Reading) (said : Option Statement) → SaysOf One r said → SaysOf Two r said
said_kept (reads line) said h = statement_kept line said h
said_kept (has_bad_byte place) said h = h
said_kept is_too_long said h = h

pub one_is_read : (line : List ℕ) (said : Option Statement) → Says One line said → Says Two line said
one_is_read line said h = said_kept (line_reading line) said h

-- in the second version all is read that is read in either
pub read_in_two : (v : Version) (line : List ℕ) (said : Option Statement) → Says v line said → Says Two line said
read_in_two One line said h = one_is_read line said h
read_in_two Two line said h = h

within : (line : List ℕ) (ts : List Lexeme) → line_reading line ≡ reads ts → length line ≤ LINE_BYTES
within line ts e = by (nat_lt LINE_BYTES (length line)) refl e
  where
    by : (c : Bool) → nat_lt LINE_BYTES (length line) ≡ c → reading_by line (cond c long_line (all_tokens line)) ≡ reads ts → length line ≤ LINE_BYTES
    by true is e = absurd (cc)
    by false is e = grind (arith, nat_tests)

-- each statement that a line says is such, and its line no longer
pub line_printed : (v : Version) (line : List ℕ) (s : Statement) → Says v line (Some s) → IsPrinted v s × (length (statement_text s) ≤ length line)
line_printed v line s h = by (line_reading line) refl h
  where
    by : (found : Reading) → line_reading line ≡ found → SaysOf v found (Some s) → IsPrinted v s × (length (statement_text s) ≤ length line)
    by (reads ts) is h =
        let again = reprinted ts s (lexemes_have line ts is) (record { shallow = h.shallow; form = h.form; known = refl; number = h.number }) in
        let room = line_no_shorter line ts is in
        let shorter = again.shorter in
        let short = within line ts is in
        let le : length (statement_text s) ≤ length line = omega arith in
        (tokens_say v s again.lexemes (omega arith) (record { shallow = again.shallow; form = again.form; known = h.known; number = h.number }), le)
    by (has_bad_byte place) is h = absurd h
    by is_too_long is h = absurd h

default_form : HasForm (statement_tokens default_name) default_name
unfolding keyword_of
default_form = record { word = refl; shape = refl }

-- and so is the name that a model has without one
pub default_printed : IsPrinted Two default_name
default_printed =
    let name = word (codes "model") in
    let one : IsLexeme name = record { kind = refl; ascii = refl } in
    tokens_say Two default_name (All-cons IsLexeme name (name ∷ []) one (All-cons IsLexeme name [] one (All-nil IsLexeme))) (omega arith)
    (record { shallow = refl; form = default_form; known = refl; number = refl })

-- and the version that stands first
newest_form : HasForm (statement_tokens (VersionLine NEWEST)) (VersionLine NEWEST)
unfolding keyword_of
newest_form = record { word = refl; shape = ap Some (number_told NEWEST (omega arith)) }

pub newest_short : length (statement_text (VersionLine NEWEST)) ≤ 9
newest_short =
    let one : length (decimal NEWEST) ≤ 1 = length-decimal-le 1 NEWEST (omega arith) (omega arith) (omega arith) in
    let all = length-append (decimal NEWEST) [] in
    omega (arith, one, all)

pub newest_printed : IsPrinted One (VersionLine NEWEST)
newest_printed =
    let name : IsLexeme (word (codes "version")) = record { kind = refl; ascii = refl } in
    let digit : IsLexeme (number NEWEST) = number_is_lexeme NEWEST (omega arith) in
    let short = newest_short in
    tokens_say One (VersionLine NEWEST) (All-cons IsLexeme (word (codes "version")) (number NEWEST ∷ []) name (All-cons IsLexeme (number NEWEST) [] digit (All-nil IsLexeme))) (omega (arith, short))
    (record { shallow = refl; form = newest_form; known = refl; number = refl })

abbrev pub AllPrinted : List Statement → Type 0
AllPrinted [] = Unit {0}
AllPrinted (s ∷ ss) = IsPrinted Two s × AllPrinted ss

-- the line of such a statement, before others
pub line_before : (v : Version) (s : Statement) → IsPrinted v s → (rest : List ℕ) → lines_of (ended_line s ++ rest) ≡ statement_text s ∷ lines_of rest
line_before v s h rest =
    ap lines_of (append_assoc (statement_text s) (10 ∷ []) rest) ∙ line_feed_ends (statement_text s) rest (no_feed (statement_text s) h.prints)
    ∙ ap (λ (x : List ℕ). x ∷ lines_of rest) (no_return (statement_text s) h.prints)

-- the lines of such statements
pub lines_printed : (ss : List Statement) → AllPrinted ss → lines_of (flat_map ended_line ss) ≡ map statement_text ss
lines_printed [] h = refl
lines_printed (s ∷ ss) h = line_before Two s h.0 (flat_map ended_line ss) ∙ ap (λ (xs : List (List ℕ)). statement_text s ∷ xs) (lines_printed ss h.1)

-- what the lexemes of a line tell is what the line tells
pub tokens_tell : (version : Version) (line : List ℕ) (lexemes : List Lexeme) (fault : LineFault) → line_reading line ≡ reads lexemes → TellsSome fault version lexemes → Tells fault version line
tokens_tell version line lexemes (Refused code) read told = subst (λ (r : Reading). RefusedOf version r code) (sym read) told
tokens_tell version line lexemes Memory read told = tt
