-- The text of a token reads as that token, and a printed number as itself.
use Rattle.std.proofs.Common.{◌≡◌, ℕ, suc, ◌+◌, Bool, true, false, not, cond, ◌||◌, ◌&&◌, nat_lt, nat_eq, List, [], ◌∷◌, ◌++◌, length, get_or, refl, sym, ap, subst, ◌∙◌, arith, codes, length-append}
use Rattle.std.proofs.lemmas.Bool.{and_parts}
use Rattle.std.proofs.lemmas.Bool.Decides.{nat_tests}
use Rattle.std.proofs.Math.Seq.{drop-append_seam, get_or-append_seam}
use Rattle.std.specs.List.{list_all, prefix_len}
use Rattle.std.specs.Cmp.Lexicographic.{same_text, pointwise}
use Rattle.lv_text.specs.declared.lexer.TokenKind.{TokenKind}
use Rattle.lv_text.specs.declared.lexer.TokenKind.TheVariants.{Word, Number, Iff, Implies, Arrow, Equals, Not, And, Or, Open, Close, Dot}
use Rattle.lv_text.specs.declared.lexer.Piece.{Piece}
use Rattle.lv_text.specs.declared.lexer.Piece.TheVariants.{End, Blank, Lexeme, Fault}
use Rattle.lv_text.specs.Bytes.{is_blank, is_comment_mark, is_letter, is_digit, is_word_byte}
use Rattle.lv_text.specs.Pieces.{piece_of, number_piece, symbol_piece}
use Rattle.lv_text.specs.Kinds.{has_kind}
use Rattle.lv_text.specs.Tokens.{prepended, tokens_from, tokens_at, tokens_behind}
use Rattle.lv_text.specs.Laws.{ends_token, token_at, TextIsToken}
use Rattle.lv_text.proofs.TokenSteps.{tokens_at-step}
use Rattle.lv_text.proofs.TokenMoves.{tokens_from-place}

-- a list does not begin with an element that passes
abbrev pub fails_first : (ℕ → Bool) → List ℕ → Bool
fails_first p [] = true
fails_first p (x ∷ xs) = not (p x)

denied : (c : Bool) → not c ≡ true → c ≡ false
denied true h = absurd (cc)
denied false h = refl

prefix_len-none : (p : ℕ → Bool) (rest : List ℕ) → fails_first p rest ≡ true → prefix_len p rest ≡ 0
prefix_len-none p [] h = refl
prefix_len-none p (x ∷ xs) h = ap (λ c. cond c (1 + prefix_len p xs) 0) (denied (p x) h)

prefix_len-whole : (p : ℕ → Bool) (xs rest : List ℕ) → list_all p xs ≡ true → fails_first p rest ≡ true → prefix_len p (xs ++ rest) ≡ length xs
prefix_len-whole p [] rest all h = prefix_len-none p rest h
prefix_len-whole p (x ∷ xs) rest all h =
    let one : 1 + length xs ≡ suc (length xs) = omega arith in
    ap (λ c. cond c (1 + prefix_len p (xs ++ rest)) 0) ((and_parts (p x) (list_all p xs) all).0)
    ∙ ap (λ n. 1 + n) (prefix_len-whole p xs rest ((and_parts (p x) (list_all p xs) all).1) h) ∙ one

letter_first : (b : ℕ) → is_letter b ≡ true → (is_comment_mark b ≡ false) × (is_blank b ≡ false)
letter_first b h = (grind (arith, nat_tests), grind (arith, nat_tests))

digit_first : (b : ℕ) → is_digit b ≡ true → (is_comment_mark b ≡ false) × (is_blank b ≡ false) × (is_letter b ≡ false)
digit_first b h = (grind (arith, nat_tests), grind (arith, nat_tests), grind (arith, nat_tests))

-- what is no word's byte is no digit and no letter
no_digit : (c d : Bool) → not (c || d) ≡ true → not d ≡ true
no_digit true d h = absurd (cc)
no_digit false d h = h

no_letter : (c d : Bool) → not (c || d) ≡ true → c ≡ false
no_letter true d h = absurd (cc)
no_letter false d h = refl

-- which of several pieces is chosen
third : (c d e : Bool) (p q r s : Piece) → c ≡ false → d ≡ false → e ≡ true → cond c p (cond d q (cond e r s)) ≡ r
third true d e p q r s f g h = absurd (cc)
third false true e p q r s f g h = absurd (cc)
third false false true p q r s f g h = refl
third false false false p q r s f g h = absurd (cc)

fourth : (c d e f : Bool) (p q r s t : Piece) → c ≡ false → d ≡ false → e ≡ false → f ≡ true → cond c p (cond d q (cond e r (cond f s t))) ≡ s
fourth true d e f p q r s t g h i j = absurd (cc)
fourth false true e f p q r s t g h i j = absurd (cc)
fourth false false true f p q r s t g h i j = absurd (cc)
fourth false false false true p q r s t g h i j = refl
fourth false false false false p q r s t g h i j = absurd (cc)

word_piece : (text rest : List ℕ) → has_kind Word text ≡ true → ends_token Word rest ≡ true → piece_of (text ++ rest) ≡ Lexeme Word (length text)
word_piece [] rest h ends = absurd (cc)
word_piece (x ∷ more) rest h ends =
    let letter : is_letter x ≡ true = (and_parts _ _ h).0 in
    let first = letter_first x letter in
    third (is_comment_mark x) (is_blank x) (is_letter x) End Blank (Lexeme Word (prefix_len is_word_byte (x ∷ (more ++ rest))))
    (cond (is_digit x) (number_piece (x ∷ (more ++ rest))) (symbol_piece (x ∷ (more ++ rest)))) first.0 first.1 letter
    ∙ ap (Lexeme Word) (prefix_len-whole is_word_byte (x ∷ more) rest ((and_parts _ _ h).1) (fails rest ends))
  where
    fails : (r : List ℕ) → ends_token Word r ≡ true → fails_first is_word_byte r ≡ true
    fails [] e = refl
    fails (y ∷ ys) e = e

number_stands : (text rest : List ℕ) → list_all is_digit text ≡ true → ends_token Number rest ≡ true → number_piece (text ++ rest) ≡ Lexeme Number (length text)
number_stands text rest all ends =
    let n : ℕ = length text in
    let long : prefix_len is_digit (text ++ rest) ≡ length text = prefix_len-whole is_digit text rest all (fails rest ends) in
    ap (λ k. cond (nat_lt k (length (text ++ rest)) && is_letter (get_or (text ++ rest) k 0)) (Fault k) (Lexeme Number k)) long
    ∙ ap (λ c. cond c (Fault (length text)) (Lexeme Number (length text))) (no_more rest ends)
  where
    fails : (r : List ℕ) → ends_token Number r ≡ true → fails_first is_digit r ≡ true
    fails [] e = refl
    fails (y ∷ ys) e = no_digit (is_letter y) (is_digit y) e

    irreflexive : (n : ℕ) → nat_lt n n ≡ false
    irreflexive n = grind (arith, nat_tests)

    right_false : (c d : Bool) → d ≡ false → (c && d) ≡ false
    right_false true d e = e
    right_false false d e = refl

    no_more : (r : List ℕ) → ends_token Number r ≡ true → (nat_lt (length text) (length (text ++ r)) && is_letter (get_or (text ++ r) (length text) 0)) ≡ false
    no_more [] e =
        let same : length (text ++ []) ≡ length text = omega (arith, length-append text []) in
        ap (λ k. nat_lt (length text) k && is_letter (get_or (text ++ []) (length text) 0)) same
        ∙ ap (λ c. c && is_letter (get_or (text ++ []) (length text) 0)) (irreflexive (length text))
    no_more (y ∷ ys) e = right_false _ _ (ap is_letter (get_or-append_seam text y ys 0) ∙ no_letter (is_letter y) (is_digit y) e)

number_read : (text rest : List ℕ) → has_kind Number text ≡ true → ends_token Number rest ≡ true → piece_of (text ++ rest) ≡ Lexeme Number (length text)
number_read [] rest h ends = absurd (cc)
number_read (x ∷ more) rest h ends =
    let digit : is_digit x ≡ true = (and_parts _ _ h).0 in
    let first = digit_first x digit in
    fourth (is_comment_mark x) (is_blank x) (is_letter x) (is_digit x) End Blank (Lexeme Word (prefix_len is_word_byte (x ∷ (more ++ rest))))
    (number_piece (x ∷ (more ++ rest))) (symbol_piece (x ∷ (more ++ rest))) first.0 first.1 first.2 digit
    ∙ number_stands (x ∷ more) rest ((and_parts _ _ h).1) ends

-- a symbol whose text is known
symbol_read : (kind : TokenKind) (needle text rest : List ℕ) → pointwise nat_eq needle text ≡ true → piece_of (needle ++ rest) ≡ Lexeme kind (length needle)
    → piece_of (text ++ rest) ≡ Lexeme kind (length text)
symbol_read kind needle text rest h is = subst (λ t. piece_of (t ++ rest) ≡ Lexeme kind (length t)) (same_text needle text (sym h)) is

equals_read : (rest : List ℕ) → ends_token Equals rest ≡ true → piece_of (codes "=" ++ rest) ≡ Lexeme Equals 1
equals_read [] e = refl
equals_read (y ∷ ys) e =
    let other : nat_eq 62 y ≡ false = turned y (denied (nat_eq y 62) e) in
    ap (λ c. cond (c && true) (Lexeme Implies 2) (Lexeme Equals 1)) other
  where
    turned : (n : ℕ) → nat_eq n 62 ≡ false → nat_eq 62 n ≡ false
    turned n h = grind (arith, nat_tests)

text_piece : (kind : TokenKind) (text rest : List ℕ) → has_kind kind text ≡ true → ends_token kind rest ≡ true → piece_of (text ++ rest) ≡ Lexeme kind (length text)
text_piece Word text rest h ends = word_piece text rest h ends
text_piece Number text rest h ends = number_read text rest h ends
text_piece Iff text rest h ends = symbol_read Iff (codes "<=>") text rest h refl
text_piece Implies text rest h ends = symbol_read Implies (codes "=>") text rest h refl
text_piece Arrow text rest h ends = symbol_read Arrow (codes "->") text rest h refl
text_piece Equals text rest h ends = symbol_read Equals (codes "=") text rest h (equals_read rest ends)
text_piece Not text rest h ends = symbol_read Not (codes "!") text rest h refl
text_piece And text rest h ends = symbol_read And (codes "&") text rest h refl
text_piece Or text rest h ends = symbol_read Or (codes "|") text rest h refl
text_piece Open text rest h ends = symbol_read Open (codes "(") text rest h refl
text_piece Close text rest h ends = symbol_read Close (codes ")") text rest h refl
text_piece Dot text rest h ends = symbol_read Dot (codes ".") text rest h refl

pub text_law : TextIsToken
text_law kind text rest h ends =
    let line : List ℕ = text ++ rest in
    let n : ℕ = length text in
    let none : 0 + length text ≡ length text = omega arith in
    tokens_at-step (text ++ rest) 0 ∙ ap (tokens_behind (text ++ rest) 0) (text_piece kind text rest h ends)
    ∙ ap (λ k. prepended (token_at kind 0 k) (tokens_at (text ++ rest) k)) none
    ∙ ap (λ l. prepended (token_at kind 0 (length text)) (tokens_from (length text) 0 l)) (drop-append_seam text rest)
    ∙ ap (prepended (token_at kind 0 (length text))) (tokens_from-place rest (length text))
