-- A line is at least as long as its tokens with no more spaces than they need.
use Rattle.std.proofs.Common.{◌≡◌, ℕ, zero, suc, ◌+◌, ◌-◌, ◌<◌, ◌≤◌, Bool, true, false, not, ◌&&◌, ◌||◌, cond, nat_lt, nat_eq, List, [], ◌∷◌, ◌++◌, length, take, drop, get_or, refl, sym, ap, ap₂, subst, ◌∙◌, ◌⊎◌, inl, inr, arith, codes, All, length-append, length-drop}
use Rattle.std.proofs.lemmas.Bool.{and_parts, or_from}
use Rattle.std.proofs.lemmas.Bool.Decides.{nat_tests}
use Rattle.std.proofs.lemmas.List.{drop_more, drop_all, append-nil}
use Rattle.std.proofs.lemmas.List.Sums.{prefix_len_stops, prefix_len-le-length}
use Rattle.std.specs.List.{prefix_len, starts_with}
use Rattle.lv_base.specs.declared.limits.TheConstants.{LINE_BYTES}
use Rattle.lv_text.specs.declared.lexer.TokenKind.{TokenKind}
use Rattle.lv_text.specs.declared.lexer.TokenKind.TheVariants.{Word, Number, Iff, Implies, Arrow, Equals, Not, And, Or, Open, Close, Dot}
use Rattle.lv_text.specs.declared.lexer.Token.{Token}
use Rattle.lv_text.specs.declared.lexer.Piece.{Piece}
use Rattle.lv_text.specs.declared.lexer.Piece.TheVariants as piece
use Rattle.lv_text.specs.Bytes.{is_letter, is_digit, is_word_byte, is_blank, is_comment_mark}
use Rattle.lv_text.specs.Pieces.{piece_of, number_piece, symbol_piece}
use Rattle.lv_text.specs.Kinds.{BeginsWith, has_kind, token_text}
use Rattle.lv_text.specs.Lexemes.{Lexeme, lexemes_of, reads, reading_by, line_reading, is_word, is_number}
use Rattle.lv_text.specs.Tokens.{Lexed, lexed, bad_byte, long_line, prepended, piece_tokens, tokens_from, all_tokens}
use Rattle.lv_text.specs.Laws.{IsLexeme, ends_token, printed}
use Rattle.lv_text.proofs.Choices.{if_holds}
use Rattle.lv_text.proofs.PieceFacts.{piece_fits, first-take}
use Rattle.lv_text.proofs.ReadBack.{printed_again}
use Rattle.lv_formula_text.specs.Nesting.{one_if}
use Rattle.lv_formula_text.specs.Spacing.{is_wordlike, spaced}

wordlike_is : (k : TokenKind) → is_wordlike k ≡ (is_word k || is_number k)
wordlike_is Word = refl
wordlike_is Number = refl
wordlike_is Iff = refl
wordlike_is Implies = refl
wordlike_is Arrow = refl
wordlike_is Equals = refl
wordlike_is Not = refl
wordlike_is And = refl
wordlike_is Or = refl
wordlike_is Open = refl
wordlike_is Close = refl
wordlike_is Dot = refl

-- tokens with spaces where they are needed are tokens as they are printed
spaced_is : (l : Lexeme) (ts : List Lexeme) → l.text ++ spaced (is_wordlike l.kind) ts ≡ printed (l ∷ ts)
spaced_is l [] = append-nil l.text
spaced_is l (m ∷ more) =
    ap₂ (λ (gap xs : List ℕ). l.text ++ (gap ++ xs))
    (ap₂ (λ (p q : Bool). cond (p && q) (32 ∷ []) []) (wordlike_is l.kind) (wordlike_is m.kind))
    (spaced_is m more)

pub spaced_printed : (ts : List Lexeme) → spaced false ts ≡ printed ts
spaced_printed [] = refl
spaced_printed (l ∷ ts) = spaced_is l ts

pub spaced_again : (ts : List Lexeme) → All IsLexeme ts → length (spaced false ts) ≤ LINE_BYTES → line_reading (spaced false ts) ≡ reads ts
spaced_again ts h le =
    let e = spaced_printed ts in
    ap line_reading e ∙ printed_again ts h (subst (λ (text : List ℕ). length text ≤ LINE_BYTES) e le)

-- how many bytes tokens need
abbrev room : Bool → List Token → ℕ
room after [] = 0
room after (t ∷ ts) = one_if (after && is_wordlike t.kind) + ((t.end - t.start) + room (is_wordlike t.kind) ts)

room_least : (after : Bool) (ts : List Token) → room after ts ≤ room false ts + 1
room_least after [] = omega arith
room_least after (t ∷ ts) = by (after && is_wordlike t.kind)
  where
    by : (b : Bool) → one_if b + ((t.end - t.start) + room (is_wordlike t.kind) ts) ≤ (0 + ((t.end - t.start) + room (is_wordlike t.kind) ts)) + 1
    by true = omega arith
    by false = omega arith

take_short : (n : ℕ) (xs : List ℕ) → length (take n xs) ≤ n
take_short zero xs = omega arith
take_short (suc n) [] = omega arith
take_short (suc n) (x ∷ xs) = let more = take_short n xs in omega arith

gap_length : (b : Bool) → length (cond b (codes " ") []) ≡ one_if b
gap_length true = refl
gap_length false = refl

room_is : (line : List ℕ) (ts : List Token) (after : Bool) → length (spaced after (lexemes_of line ts)) ≤ room after ts
room_is line [] after = omega arith
room_is line (t ∷ ts) after =
    let gap = cond (after && is_wordlike t.kind) (codes " ") [] in
    let others = spaced (is_wordlike t.kind) (lexemes_of line ts) in
    let a : length (gap ++ (token_text line t ++ others)) ≡ length gap + length (token_text line t ++ others) = length-append gap (token_text line t ++ others) in
    let b = length-append (token_text line t) others in
    let c = gap_length (after && is_wordlike t.kind) in
    let d = take_short (t.end - t.start) (drop t.start line) in
    let e = room_is line ts (is_wordlike t.kind) in
    omega arith

-- behind a word or a number stands no byte that would go on with it
abbrev Parted : List ℕ → Piece → Type 0
Parted xs (piece.Lexeme kind n) = is_wordlike kind ≡ true → ends_token Word (drop n xs) ≡ true
Parted xs piece.End = Unit {0}
Parted xs piece.Blank = Unit {0}
Parted xs (piece.Fault n) = Unit {0}

parted_at : (xs : List ℕ) (n : ℕ) → n ≤ length xs → (n < length xs → is_word_byte (get_or xs n 0) ≡ false) → ends_token Word (drop n xs) ≡ true
parted_at xs n le stops =
    let cases : (length xs ≤ n) ⊎ (n < length xs) = grind arith in
    elim cases [
      | inl all ↦ ap (ends_token Word) (drop_all n xs all)
      | inr some ↦ ap (ends_token Word) (drop_more xs n 0 some) ∙ ap not (stops some)
    ]

word_parts : (xs : List ℕ) → Parted xs (piece.Lexeme Word (prefix_len is_word_byte xs))
word_parts xs word = parted_at xs (prefix_len is_word_byte xs) (prefix_len-le-length is_word_byte xs) (prefix_len_stops is_word_byte xs 0)

number_parts : (xs : List ℕ) → Parted xs (number_piece xs)
number_parts xs =
    let n : ℕ = prefix_len is_digit xs in
    if_holds (Parted xs) (nat_lt n (length xs) && is_letter (get_or xs n 0)) (piece.Fault n) (piece.Lexeme Number n) (λ _. tt)
    (λ none _. parted_at xs n (prefix_len-le-length is_digit xs) (λ less. or_from _ _ (no_letter (nat_lt n (length xs)) (is_letter (get_or xs n 0)) (grind (arith, nat_tests, less)) none) (prefix_len_stops is_digit xs 0 less)))
  where
    no_letter : (a b : Bool) → a ≡ true → (a && b) ≡ false → b ≡ false
    no_letter true b e h = h
    no_letter false b e h = absurd (cc)

symbol_parts : (ys xs : List ℕ) → Parted ys (symbol_piece xs)
symbol_parts ys xs =
    if_holds (Parted ys) (starts_with nat_eq xs (codes "<=>")) (piece.Lexeme Iff 3) _ (λ _ w. absurd (cc)) (λ _.
    if_holds (Parted ys) (starts_with nat_eq xs (codes "=>")) (piece.Lexeme Implies 2) _ (λ _ w. absurd (cc)) (λ _.
    if_holds (Parted ys) (starts_with nat_eq xs (codes "->")) (piece.Lexeme Arrow 2) _ (λ _ w. absurd (cc)) (λ _.
    if_holds (Parted ys) (starts_with nat_eq xs (codes "=")) (piece.Lexeme Equals 1) _ (λ _ w. absurd (cc)) (λ _.
    if_holds (Parted ys) (starts_with nat_eq xs (codes "!")) (piece.Lexeme Not 1) _ (λ _ w. absurd (cc)) (λ _.
    if_holds (Parted ys) (starts_with nat_eq xs (codes "&")) (piece.Lexeme And 1) _ (λ _ w. absurd (cc)) (λ _.
    if_holds (Parted ys) (starts_with nat_eq xs (codes "|")) (piece.Lexeme Or 1) _ (λ _ w. absurd (cc)) (λ _.
    if_holds (Parted ys) (starts_with nat_eq xs (codes "(")) (piece.Lexeme Open 1) _ (λ _ w. absurd (cc)) (λ _.
    if_holds (Parted ys) (starts_with nat_eq xs (codes ")")) (piece.Lexeme Close 1) _ (λ _ w. absurd (cc)) (λ _.
    if_holds (Parted ys) (starts_with nat_eq xs (codes ".")) (piece.Lexeme Dot 1) (piece.Fault 0) (λ _ w. absurd (cc)) (λ _. tt))))))))))

piece_parts : (b : ℕ) (more : List ℕ) → Parted (b ∷ more) (piece_of (b ∷ more))
piece_parts b more =
    let xs : List ℕ = b ∷ more in
    if_holds (Parted xs) (is_comment_mark b) piece.End _ (λ _. tt) (λ _.
    if_holds (Parted xs) (is_blank b) piece.Blank _ (λ _. tt) (λ _.
    if_holds (Parted xs) (is_letter b) (piece.Lexeme Word (prefix_len is_word_byte xs)) _ (λ _. word_parts xs) (λ _.
    if_holds (Parted xs) (is_digit b) (number_piece xs) (symbol_piece xs) (λ _. number_parts xs) (λ _. symbol_parts xs xs))))

-- the first byte of a word or a number
first_byte : (kind : TokenKind) (b : ℕ) (more : List ℕ) (n : ℕ) → is_wordlike kind ≡ true → 0 < n → has_kind kind (take n (b ∷ more)) ≡ true → is_word_byte b ≡ true
first_byte Word b more n w some h =
    let first : is_letter b ≡ true = subst (λ c. is_letter c ≡ true) (first-take n b more some) ((and_parts _ _ h).0) in ap (λ c. c || is_digit b) first
first_byte Number b more n w some h =
    let first : is_digit b ≡ true = subst (λ c. is_digit c ≡ true) (first-take n b more some) ((and_parts _ _ h).0) in by (is_letter b) first
  where
    by : (a : Bool) {c : Bool} → c ≡ true → (a || c) ≡ true
    by true e = refl
    by false e = e
first_byte kind b more n w some h = absurd (cc)

-- so no space is needed before it where none was
no_gap : (after : Bool) (kind : TokenKind) (b : ℕ) (more : List ℕ) (n : ℕ) → (after ≡ true → not (is_word_byte b) ≡ true) → 0 < n → has_kind kind (take n (b ∷ more)) ≡ true
    → one_if (after && is_wordlike kind) ≡ 0
no_gap false kind b more n free some h = refl
no_gap true kind b more n free some h = by (is_wordlike kind) refl
  where
    clash : (c : Bool) → c ≡ true → not c ≡ true → ⊥
    clash true e h = absurd (cc)
    clash false e h = absurd (cc)

    by : (w : Bool) → is_wordlike kind ≡ w → one_if w ≡ 0
    by false is = refl
    by true is = let word = first_byte kind b more n is some h in let none = free refl in absurd (clash (is_word_byte b) word none)

drop_one_less : (n : ℕ) (b : ℕ) (more : List ℕ) → 0 < n → drop n (b ∷ more) ≡ drop (n - 1) more
drop_one_less zero b more some = absurd (omega arith)
drop_one_less (suc n) b more some = let e : n ≡ suc n - 1 = omega arith in ap (λ k. drop k more) e

piece_room : (b : ℕ) (more : List ℕ) (place : ℕ) (after : Bool) → (after ≡ true → not (is_word_byte b) ≡ true) → (behind : ℕ → Lexed)
    → ((passed : ℕ) (next : Bool) → (next ≡ true → ends_token Word (drop passed more) ≡ true) → (us : List Token) → behind passed ≡ lexed us → room next us ≤ length (drop passed more))
    → (p : Piece) → BeginsWith (b ∷ more) p → Parted (b ∷ more) p → (ts : List Token) → piece_tokens place p behind ≡ lexed ts → room after ts ≤ length (b ∷ more)
piece_room b more place after free behind later piece.End h parts [] e = omega arith
piece_room b more place after free behind later piece.End h parts (t ∷ ts) e = absurd (cc)
piece_room b more place after free behind later piece.Blank h parts ts e =
    let least = room_least after ts in
    let others = later 0 false (λ e. absurd (cc)) ts e in
    omega arith
piece_room b more place after free behind later (piece.Lexeme kind n) h parts ts e = by (behind (n - 1)) refl e
  where
    t : Token
    t = record { kind = kind; start = place; end = place + n }

    by : (found : Lexed) → behind (n - 1) ≡ found → prepended t found ≡ lexed ts → room after ts ≤ length (b ∷ more)
    by (lexed us) same whole =
        let all : t ∷ us ≡ ts = cc in
        let none = no_gap after kind b more n free h.0 h.2 in
        let others = later (n - 1) (is_wordlike kind) (λ w. sym (ap (ends_token Word) (drop_one_less n b more h.0)) ∙ parts w) us same in
        let left = length-drop (n - 1) more in
        let some = h.0 in
        let inside = h.1 in
        let whole : room after (t ∷ us) ≤ length (b ∷ more) = omega arith in
        subst (λ us. room after us ≤ length (b ∷ more)) all whole
    by (bad_byte k) same whole = absurd (cc)
    by long_line same whole = absurd (cc)
piece_room b more place after free behind later (piece.Fault n) h parts ts e = absurd (cc)

tokens_room : (xs : List ℕ) (place passed : ℕ) (after : Bool) → (after ≡ true → ends_token Word (drop passed xs) ≡ true) → (ts : List Token) → tokens_from place passed xs ≡ lexed ts
    → room after ts ≤ length (drop passed xs)
tokens_room [] place passed after free [] e = omega arith
tokens_room [] place passed after free (t ∷ ts) e = absurd (cc)
tokens_room (b ∷ more) place (suc passed) after free ts e = tokens_room more (place + 1) passed after free ts e
tokens_room (b ∷ more) place zero after free ts e =
    piece_room b more place after free (λ passed. tokens_from (place + 1) passed more) (λ passed next free us is. tokens_room more (place + 1) passed next free us is)
    (piece_of (b ∷ more)) (piece_fits (b ∷ more)) (piece_parts b more) ts e

pub line_no_shorter : (line : List ℕ) (ls : List Lexeme) → line_reading line ≡ reads ls → length (spaced false ls) ≤ length line
line_no_shorter line ls h = by_length (nat_lt LINE_BYTES (length line)) h
  where
    by : (found : Lexed) → all_tokens line ≡ found → reading_by line found ≡ reads ls → length (spaced false ls) ≤ length line
    by (lexed ts) is e =
        let same : lexemes_of line ts ≡ ls = cc in
        let needed = room_is line ts false in
        let there = tokens_room line 0 0 false (λ e. absurd (cc)) ts is in
        subst (λ ls. length (spaced false ls) ≤ length line) same (omega arith)
    by (bad_byte p) is e = absurd (cc)
    by long_line is e = absurd (cc)

    by_length : (c : Bool) → reading_by line (cond c long_line (all_tokens line)) ≡ reads ls → length (spaced false ls) ≤ length line
    by_length true e = absurd (cc)
    by_length false e = by (all_tokens line) refl e
