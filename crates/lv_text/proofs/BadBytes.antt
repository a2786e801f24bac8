-- The byte told as bad is not allowed where it stands.
use Rattle.std.proofs.Common.{◌≡◌, ℕ, zero, suc, ◌+◌, ◌-◌, ◌<◌, Bool, true, false, not, cond, ◌||◌, ◌&&◌, nat_lt, nat_eq, List, [], ◌∷◌, length, drop, get_or, refl, sym, ap, subst, ◌∙◌, arith, codes, length-drop}
use Rattle.std.proofs.lemmas.Bool.{and_parts, and_from}
use Rattle.std.proofs.lemmas.Bool.Decides.{nat_tests}
use Rattle.std.proofs.lemmas.List.{drop-drop, get_or-drop}
use Rattle.std.proofs.lemmas.List.Sums.{prefix_len_passes}
use Rattle.std.specs.List.{prefix_len, list_any, starts_with}
use Rattle.lv_text.specs.declared.lexer.Token.{Token}
use Rattle.lv_text.specs.declared.lexer.TokenKind.TheVariants.{Word, Number, Iff, Implies, Arrow, Equals, Not, And, Or, Open, Close, Dot}
use Rattle.lv_text.specs.declared.lexer.Piece.{Piece}
use Rattle.lv_text.specs.declared.lexer.Piece.TheVariants.{End, Blank, Lexeme, Fault}
use Rattle.lv_text.specs.Bytes.{is_letter, is_digit, is_word_byte, is_blank, is_comment_mark}
use Rattle.lv_text.specs.Pieces.{piece_of, number_piece, symbol_piece}
use Rattle.lv_text.specs.Kinds.{BeginsWith}
use Rattle.lv_text.specs.Tokens.{Lexed, lexed, bad_byte, long_line, prepended, piece_tokens, tokens_from}
use Rattle.lv_text.specs.Laws.{is_not_allowed, begins_something, symbol_texts, BadByteIsNotAllowed}
use Rattle.lv_text.proofs.Choices.{if_holds}
use Rattle.lv_text.proofs.PieceFacts.{piece_fits, prefix_len-first}
use Rattle.lv_text.proofs.TokenFacts.{further}
use borrow.Author.Tests.{ltb-true}

-- a fault tells a byte that is not allowed
abbrev pub FaultStands : List ℕ → Piece → Type 0
FaultStands xs End = Unit {0}
FaultStands xs Blank = Unit {0}
FaultStands xs (Lexeme kind n) = Unit {0}
FaultStands xs (Fault n) = is_not_allowed xs n ≡ true

positive : (n : ℕ) → 0 < n → nat_lt 0 n ≡ true
positive n h = grind (arith, nat_tests)

-- a letter behind a digit is not allowed
letter_not_allowed : (xs : List ℕ) (n : ℕ) → is_letter (get_or xs n 0) ≡ true → 0 < n → is_digit (get_or xs (n - 1) 0) ≡ true → is_not_allowed xs n ≡ true
letter_not_allowed xs n letter some digit =
    ap (λ c. cond c (nat_lt 0 n && is_digit (get_or xs (n - 1) 0)) (not (begins_something (drop n xs)))) letter ∙ and_from _ _ (positive n some) digit

number_faults : (b : ℕ) (more : List ℕ) → is_digit b ≡ true → FaultStands (b ∷ more) (number_piece (b ∷ more))
number_faults b more is =
    let xs : List ℕ = b ∷ more in
    let n : ℕ = prefix_len is_digit xs in
    let some : 0 < n = prefix_len-first is_digit b more is in
    let less : n - 1 < n = omega arith in
    if_holds (FaultStands xs) (nat_lt n (length xs) && is_letter (get_or xs n 0)) (Fault n) (Lexeme Number n)
    (λ h. letter_not_allowed xs n ((and_parts _ _ h).1) some (prefix_len_passes is_digit xs (n - 1) 0 less)) (λ _. tt)

nor : (c r : Bool) → c ≡ false → r ≡ false → (c || r) ≡ false
nor true r e f = e
nor false r e f = f

denies : (c : Bool) → c ≡ false → not c ≡ true
denies true e = absurd (cc)
denies false e = refl

symbol_faults : (xs : List ℕ) → (list_any (starts_with nat_eq xs) symbol_texts ≡ false → is_not_allowed xs 0 ≡ true) → FaultStands xs (symbol_piece xs)
symbol_faults xs none =
    if_holds (FaultStands xs) (starts_with nat_eq xs (codes "<=>")) (Lexeme Iff 3) _ (λ _. tt) (λ a.
    if_holds (FaultStands xs) (starts_with nat_eq xs (codes "=>")) (Lexeme Implies 2) _ (λ _. tt) (λ b.
    if_holds (FaultStands xs) (starts_with nat_eq xs (codes "->")) (Lexeme Arrow 2) _ (λ _. tt) (λ c.
    if_holds (FaultStands xs) (starts_with nat_eq xs (codes "=")) (Lexeme Equals 1) _ (λ _. tt) (λ d.
    if_holds (FaultStands xs) (starts_with nat_eq xs (codes "!")) (Lexeme Not 1) _ (λ _. tt) (λ e.
    if_holds (FaultStands xs) (starts_with nat_eq xs (codes "&")) (Lexeme And 1) _ (λ _. tt) (λ f.
    if_holds (FaultStands xs) (starts_with nat_eq xs (codes "|")) (Lexeme Or 1) _ (λ _. tt) (λ g.
    if_holds (FaultStands xs) (starts_with nat_eq xs (codes "(")) (Lexeme Open 1) _ (λ _. tt) (λ h.
    if_holds (FaultStands xs) (starts_with nat_eq xs (codes ")")) (Lexeme Close 1) _ (λ _. tt) (λ i.
    if_holds (FaultStands xs) (starts_with nat_eq xs (codes ".")) (Lexeme Dot 1) (Fault 0) (λ _. tt) (λ j.
    none (nor _ _ a (nor _ _ b (nor _ _ c (nor _ _ d (nor _ _ e (nor _ _ f (nor _ _ g (nor _ _ h (nor _ _ i (nor _ _ j refl))))))))))))))))))))

-- a byte that begins nothing is not allowed
begins_nothing : (b : ℕ) (more : List ℕ) → is_comment_mark b ≡ false → is_blank b ≡ false → is_letter b ≡ false → is_digit b ≡ false
    → list_any (starts_with nat_eq (b ∷ more)) symbol_texts ≡ false → is_not_allowed (b ∷ more) 0 ≡ true
begins_nothing b more mark blank letter digit none =
    ap (λ c. cond c (nat_lt 0 0 && is_digit (get_or (b ∷ more) (0 - 1) 0)) (not (begins_something (b ∷ more)))) letter
    ∙ denies (begins_something (b ∷ more)) (nor _ _ (nor _ _ (nor _ _ blank mark) (nor _ _ letter digit)) none)

piece_faults : (xs : List ℕ) → FaultStands xs (piece_of xs)
piece_faults [] = tt
piece_faults (b ∷ more) =
    let xs : List ℕ = b ∷ more in
    if_holds (FaultStands xs) (is_comment_mark b) End _ (λ _. tt) (λ mark.
    if_holds (FaultStands xs) (is_blank b) Blank _ (λ _. tt) (λ blank.
    if_holds (FaultStands xs) (is_letter b) (Lexeme Word (prefix_len is_word_byte xs)) _ (λ _. tt) (λ letter.
    if_holds (FaultStands xs) (is_digit b) (number_piece xs) (symbol_piece xs) (number_faults b more) (λ digit.
    symbol_faults xs (begins_nothing b more mark blank letter digit)))))

-- the same byte of a longer line
not_allowed_further : (line xs : List ℕ) (place n : ℕ) → xs ≡ drop place line → is_not_allowed xs n ≡ true → is_not_allowed line (place + n) ≡ true
not_allowed_further line xs place n is h = by (is_letter (get_or xs n 0)) refl
  where
    same : (k : ℕ) → get_or xs k 0 ≡ get_or line (place + k) 0
    same k = ap (λ l. get_or l k 0) is ∙ get_or-drop place line k 0

    rest : drop (place + n) line ≡ drop n xs
    rest = sym (drop-drop n place line) ∙ ap (drop n) (sym is)

    by : (c : Bool) → is_letter (get_or xs n 0) ≡ c → is_not_allowed line (place + n) ≡ true
    by true e =
        let digit : (nat_lt 0 n && is_digit (get_or xs (n - 1) 0)) ≡ true =
        sym (ap (λ c. cond c (nat_lt 0 n && is_digit (get_or xs (n - 1) 0)) (not (begins_something (drop n xs)))) e) ∙ h in
        let some : 0 < n = ltb-true 0 n ((and_parts (nat_lt 0 n) (is_digit (get_or xs (n - 1) 0)) digit).0) in
        let before : place + (n - 1) ≡ (place + n) - 1 = omega arith in
        letter_not_allowed line (place + n) (ap is_letter (sym (same n)) ∙ e) (omega arith)
        (ap (λ k. is_digit (get_or line k 0)) (sym before) ∙ ap is_digit (sym (same (n - 1))) ∙ (and_parts (nat_lt 0 n) (is_digit (get_or xs (n - 1) 0)) digit).1)
    by false e =
        let nothing : not (begins_something (drop n xs)) ≡ true =
        sym (ap (λ c. cond c (nat_lt 0 n && is_digit (get_or xs (n - 1) 0)) (not (begins_something (drop n xs)))) e) ∙ h in
        ap (λ c. cond c (nat_lt 0 (place + n) && is_digit (get_or line ((place + n) - 1) 0)) (not (begins_something (drop (place + n) line)))) (ap is_letter (sym (same n)) ∙ e)
        ∙ ap (λ l. not (begins_something l)) rest ∙ nothing

-- a byte of the line that is not allowed
abbrev pub IsBad : List ℕ → ℕ → Type 0
IsBad line p = (p < length line) × (is_not_allowed line p ≡ true)

bad_piece : (line xs : List ℕ) (place : ℕ) → xs ≡ drop place line → (behind : ℕ → Lexed) → ((passed p : ℕ) → behind passed ≡ bad_byte p → IsBad line p)
    → (q : Piece) → BeginsWith xs q → FaultStands xs q → (p : ℕ) → piece_tokens place q behind ≡ bad_byte p → IsBad line p
bad_piece line xs place is behind later End h f p e = absurd (cc)
bad_piece line xs place is behind later Blank h f p e = later 0 p e
bad_piece line xs place is behind later (Lexeme kind n) h f p e = by (behind (n - 1)) refl e
  where
    t : Token
    t = record { kind = kind; start = place; end = place + n }

    by : (found : Lexed) → behind (n - 1) ≡ found → prepended t found ≡ bad_byte p → IsBad line p
    by (lexed us) same whole = absurd (cc)
    by (bad_byte k) same whole = later (n - 1) p (same ∙ whole)
    by long_line same whole = absurd (cc)
bad_piece line xs place is behind later (Fault n) h f p e =
    let inside : place + n < length line = omega (arith, h, ap length is, length-drop place line) in
    let there : place + n ≡ p = cc in
    subst (IsBad line) there (inside, not_allowed_further line xs place n is f)

plus_none : (n : ℕ) → n + 0 ≡ n
plus_none n = omega arith

bad_from : (line xs : List ℕ) (place passed : ℕ) → ((k : ℕ) → drop k xs ≡ drop (place + k) line) → (p : ℕ) → tokens_from place passed xs ≡ bad_byte p → IsBad line p
bad_from line [] place passed rest p e = absurd (cc)
bad_from line (b ∷ more) place (suc passed) rest p e = bad_from line more (place + 1) passed (further more line place (λ k. rest (suc k))) p e
bad_from line (b ∷ more) place zero rest p e =
    bad_piece line (b ∷ more) place (rest 0 ∙ ap (λ k. drop k line) (plus_none place)) (λ passed. tokens_from (place + 1) passed more)
    (λ passed k e'. bad_from line more (place + 1) passed (further more line place (λ k. rest (suc k))) k e')
    (piece_of (b ∷ more)) (piece_fits (b ∷ more)) (piece_faults (b ∷ more)) p e

pub bad_law : BadByteIsNotAllowed
bad_law line p e = bad_from line line 0 0 (λ k. ap (λ n. drop n line) (none_plus k)) p e
  where
    none_plus : (k : ℕ) → k ≡ 0 + k
    none_plus k = omega arith
