-- Each token that a line reads as is a part of it with a text of its kind, and they follow one on the other.
use Rattle.std.proofs.Common.{◌≡◌, ℕ, zero, suc, ◌+◌, ◌-◌, ◌≤◌, true, List, [], ◌∷◌, length, take, drop, refl, sym, ap, subst, ◌∙◌, arith, nat_eq, nat_le, codes, length-drop}
use Rattle.std.proofs.lemmas.Bool.{and_parts, and_from}
use Rattle.std.proofs.lemmas.Bool.Decides.{nat_tests}
use Rattle.std.specs.List.{All, AllByRecursion, list_all}
use Rattle.std.proofs.lemmas.List.Elements.{All-from_recursion}
use Rattle.std.specs.Cmp.Lexicographic.{pointwise, same_text}
use Rattle.lv_text.specs.declared.lexer.TokenKind.{TokenKind}
use Rattle.lv_text.specs.declared.lexer.TokenKind.TheVariants.{Word, Number, Iff, Implies, Arrow, Equals, Not, And, Or, Open, Close, Dot}
use Rattle.lv_text.specs.declared.lexer.Token.{Token}
use Rattle.lv_text.specs.declared.lexer.Piece.{Piece}
use Rattle.lv_text.specs.declared.lexer.Piece.TheVariants.{End, Blank, Lexeme, Fault}
use Rattle.lv_text.specs.Bytes.{is_digit, is_word_byte}
use Rattle.lv_text.specs.Pieces.{piece_of}
use Rattle.lv_text.specs.Kinds.{BeginsWith, IsTokenOf, has_kind, is_ascii_byte, follow_on}
use Rattle.lv_text.specs.Tokens.{Lexed, lexed, bad_byte, long_line, prepended, piece_tokens, tokens_from, all_tokens}
use Rattle.lv_text.proofs.Choices.{list_all-weaker}
use Rattle.lv_text.proofs.PieceFacts.{piece_fits}

word_byte_is_ascii : (b : ℕ) → is_word_byte b ≡ true → is_ascii_byte b ≡ true
word_byte_is_ascii b h = grind (arith, nat_tests)

digit_is_ascii : (b : ℕ) → is_digit b ≡ true → is_ascii_byte b ≡ true
digit_is_ascii b h = grind (arith, nat_tests)

-- a text that is a symbol's
symbol_is_ascii : (needle text : List ℕ) → list_all is_ascii_byte needle ≡ true → pointwise nat_eq needle text ≡ true → list_all is_ascii_byte text ≡ true
symbol_is_ascii needle text ascii h = subst (λ t. list_all is_ascii_byte t ≡ true) (same_text needle text (sym h)) ascii

kind_is_ascii : (kind : TokenKind) (text : List ℕ) → has_kind kind text ≡ true → list_all is_ascii_byte text ≡ true
kind_is_ascii Word text h = list_all-weaker is_word_byte is_ascii_byte word_byte_is_ascii text ((and_parts _ _ h).1)
kind_is_ascii Number text h = list_all-weaker is_digit is_ascii_byte digit_is_ascii text ((and_parts _ _ h).1)
kind_is_ascii Iff text h = symbol_is_ascii (codes "<=>") text refl h
kind_is_ascii Implies text h = symbol_is_ascii (codes "=>") text refl h
kind_is_ascii Arrow text h = symbol_is_ascii (codes "->") text refl h
kind_is_ascii Equals text h = symbol_is_ascii (codes "=") text refl h
kind_is_ascii Not text h = symbol_is_ascii (codes "!") text refl h
kind_is_ascii And text h = symbol_is_ascii (codes "&") text refl h
kind_is_ascii Or text h = symbol_is_ascii (codes "|") text refl h
kind_is_ascii Open text h = symbol_is_ascii (codes "(") text refl h
kind_is_ascii Close text h = symbol_is_ascii (codes ")") text refl h
kind_is_ascii Dot text h = symbol_is_ascii (codes ".") text refl h

-- a piece that stands at a place of the line is a token of it
token_stands : (line xs : List ℕ) (place : ℕ) (kind : TokenKind) (n : ℕ) → xs ≡ drop place line → BeginsWith xs (Lexeme kind n)
    → IsTokenOf line (record { kind = kind; start = place; end = place + n })
token_stands line xs place kind n is h =
    let same : n ≡ (place + n) - place = omega arith in
    let text : has_kind kind (take ((place + n) - place) (drop place line)) ≡ true =
    subst (λ k. has_kind kind (take k (drop place line)) ≡ true) same (subst (λ l. has_kind kind (take n l) ≡ true) is h.2) in
    record {
      begins = omega (arith, h.0);
      ends = omega (arith, h.0, h.1, ap length is, length-drop place line);
      text = text;
      ascii = kind_is_ascii kind _ text;
    }

-- tokens of a line, one behind the other, the first not before a place
abbrev pub AreFrom : List ℕ → ℕ → List Token → Type 0
AreFrom line place [] = Unit {0}
AreFrom line place (t ∷ ts) = (place ≤ t.start) × IsTokenOf line t × AreFrom line t.end ts

-- a piece's tokens are such, where those behind it are
piece_are : (line xs : List ℕ) (place low : ℕ) → low ≤ place → xs ≡ drop place line → (behind : ℕ → Lexed)
    → ((passed n : ℕ) → n ≤ (place + 1) + passed → (ts : List Token) → behind passed ≡ lexed ts → AreFrom line n ts)
    → (p : Piece) → BeginsWith xs p → (ts : List Token) → piece_tokens place p behind ≡ lexed ts → AreFrom line low ts
piece_are line xs place low le is behind later End h [] e = tt
piece_are line xs place low le is behind later End h (t ∷ ts) e = absurd (cc)
piece_are line xs place low le is behind later Blank h ts e = later 0 low (omega arith) ts e
piece_are line xs place low le is behind later (Lexeme kind n) h ts e = by (behind (n - 1)) refl e
  where
    t : Token
    t = record { kind = kind; start = place; end = place + n }

    by : (found : Lexed) → behind (n - 1) ≡ found → prepended t found ≡ lexed ts → AreFrom line low ts
    by (lexed us) same whole =
        let parts : t ∷ us ≡ ts = cc in
        subst (AreFrom line low) parts (le, token_stands line xs place kind n is h, later (n - 1) (place + n) (omega (arith, h.0)) us same)
    by (bad_byte k) same whole = absurd (cc)
    by long_line same whole = absurd (cc)
piece_are line xs place low le is behind later (Fault n) h ts e = absurd (cc)

plus_none : (n : ℕ) → n + 0 ≡ n
plus_none n = omega arith

pub further : (more line : List ℕ) (place : ℕ) → ((k : ℕ) → drop k more ≡ drop (place + suc k) line) → (k : ℕ) → drop k more ≡ drop ((place + 1) + k) line
further more line place rest k =
    let e : place + suc k ≡ (place + 1) + k = omega arith in
    rest k ∙ ap (λ n. drop n line) e

tokens_are : (line xs : List ℕ) (place passed low : ℕ) → ((k : ℕ) → drop k xs ≡ drop (place + k) line) → low ≤ place + passed
    → (ts : List Token) → tokens_from place passed xs ≡ lexed ts → AreFrom line low ts
tokens_are line [] place passed low rest le [] e = tt
tokens_are line [] place passed low rest le (t ∷ ts) e = absurd (cc)
tokens_are line (b ∷ more) place (suc passed) low rest le ts e =
    tokens_are line more (place + 1) passed low (further more line place (λ k. rest (suc k))) (omega arith) ts e
tokens_are line (b ∷ more) place zero low rest le ts e =
    piece_are line (b ∷ more) place low (omega arith) (rest 0 ∙ ap (λ k. drop k line) (plus_none place)) (λ passed. tokens_from (place + 1) passed more)
    (λ passed n le' us e'. tokens_are line more (place + 1) passed n (further more line place (λ k. rest (suc k))) le' us e')
    (piece_of (b ∷ more)) (piece_fits (b ∷ more)) ts e

line_are : (line : List ℕ) (ts : List Token) → all_tokens line ≡ lexed ts → AreFrom line 0 ts
line_are line ts e = tokens_are line line 0 0 0 (λ k. ap (λ n. drop n line) (none_plus k)) (omega arith) ts e
  where
    none_plus : (k : ℕ) → k ≡ 0 + k
    none_plus k = omega arith

each_is : (line : List ℕ) (place : ℕ) (ts : List Token) → AreFrom line place ts → All (IsTokenOf line) ts
each_is line place ts h = All-from_recursion (IsTokenOf line) ts (by place ts h)
  where
    by : (place : ℕ) (ts : List Token) → AreFrom line place ts → AllByRecursion (IsTokenOf line) ts
    by place [] h = tt
    by place (t ∷ ts) h = (h.1, by t.end ts h.2)

they_follow : (line : List ℕ) (place : ℕ) (ts : List Token) → AreFrom line place ts → follow_on place ts ≡ true
they_follow line place [] h = refl
they_follow line place (t ∷ ts) h =
    let le : place ≤ t.start = h.0 in
    let test : nat_le place t.start ≡ true = grind (arith, nat_tests) in
    and_from _ _ test (they_follow line t.end ts h.2)

-- each token that a line reads as is a token of it
pub all_tokens_each : (line : List ℕ) (ts : List Token) → all_tokens line ≡ lexed ts → All (IsTokenOf line) ts
all_tokens_each line ts e = each_is line 0 ts (line_are line ts e)

-- and they follow one on the other
pub all_tokens_follow : (line : List ℕ) (ts : List Token) → all_tokens line ≡ lexed ts → follow_on 0 ts ≡ true
all_tokens_follow line ts e = they_follow line 0 ts (line_are line ts e)
