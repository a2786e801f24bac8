-- A byte that stands in no token doesn't change the piece before it.
use Rattle.std.proofs.Common.{◌≡◌, ℕ, suc, ◌+◌, Bool, true, false, cond, ◌&&◌, ◌||◌, nat_lt, nat_eq, List, [], ◌∷◌, ◌++◌, length, take, get_or, refl, sym, ap, ap₂, subst, ◌∙◌, arith, codes}
use Rattle.std.proofs.lemmas.Bool.{and_parts}
use Rattle.std.proofs.lemmas.Bool.Decides.{nat_tests}
use Rattle.std.specs.List.{prefix_len, list_all, starts_with}
use Rattle.std.specs.Cmp.Lexicographic.{pointwise}
use Rattle.lv_text.specs.declared.lexer.TokenKind.TheVariants.{Word, Number, Iff, Implies, Arrow, Equals, Not, And, Or, Open, Close, Dot}
use Rattle.lv_text.specs.declared.lexer.Piece.{Piece}
use Rattle.lv_text.specs.declared.lexer.Piece.TheVariants.{End, Blank, Lexeme, Fault}
use Rattle.lv_text.specs.Bytes.{is_letter, is_digit, is_word_byte, is_blank, is_comment_mark, is_symbol_byte}
use Rattle.lv_text.specs.Pieces.{piece_of, number_piece, symbol_piece}

-- a byte that stands in no token
pub record StandsApart (b : ℕ) : Type 0 where
  pub word : is_word_byte b ≡ false
  pub symbol : is_symbol_byte b ≡ false

neither : (p q : Bool) → (p || q) ≡ false → (p ≡ false) × (q ≡ false)
neither true q h = absurd (cc)
neither false q h = (refl, h)

-- the front that passes doesn't go past an element that fails
pub prefix_len-append_no : (p : ℕ → Bool) (xs : List ℕ) (y : ℕ) (ys : List ℕ) → p y ≡ false → prefix_len p (xs ++ y ∷ ys) ≡ prefix_len p xs
prefix_len-append_no p [] y ys fails = ap (λ c. cond c (1 + prefix_len p ys) 0) fails
prefix_len-append_no p (x ∷ xs) y ys fails = ap (λ n. cond (p x) (1 + n) 0) (prefix_len-append_no p xs y ys fails)

neither_way : (c d : Bool) → d ≡ false → (c && d) ≡ false
neither_way true d e = e
neither_way false d e = refl

-- whether an element stands behind the front that passes p and passes q, with a failing element more

behind-append : (p q : ℕ → Bool) (xs : List ℕ) (y : ℕ) (ys : List ℕ) → p y ≡ false → q y ≡ false
    → (nat_lt (prefix_len p (xs ++ y ∷ ys)) (length (xs ++ y ∷ ys)) && q (get_or (xs ++ y ∷ ys) (prefix_len p (xs ++ y ∷ ys)) 0))
    ≡ (nat_lt (prefix_len p xs) (length xs) && q (get_or xs (prefix_len p xs) 0))
behind-append p q [] y ys fails too = rw fails (neither_way _ (q y) too)
behind-append p q (x ∷ xs) y ys fails too = by (behind-append p q xs y ys fails too) (p x)
  where
    next : (a b : ℕ) → nat_lt (1 + a) (suc b) ≡ nat_lt a b
    next a b = grind (arith, nat_tests)

    shift : (n : ℕ) (zs : List ℕ) → (nat_lt (1 + n) (suc (length zs)) && q (get_or (x ∷ zs) (1 + n) 0)) ≡ (nat_lt n (length zs) && q (get_or zs n 0))
    shift n zs =
        let one : 1 + n ≡ suc n = omega arith in
        ap₂ (λ (s t : Bool). s && t) (next n (length zs)) (ap (λ k. q (get_or (x ∷ zs) k 0)) one)

    by : (nat_lt (prefix_len p (xs ++ y ∷ ys)) (length (xs ++ y ∷ ys)) && q (get_or (xs ++ y ∷ ys) (prefix_len p (xs ++ y ∷ ys)) 0))
        ≡ (nat_lt (prefix_len p xs) (length xs) && q (get_or xs (prefix_len p xs) 0)) → (c : Bool)
        → (nat_lt (cond c (1 + prefix_len p (xs ++ y ∷ ys)) 0) (suc (length (xs ++ y ∷ ys))) && q (get_or (x ∷ (xs ++ y ∷ ys)) (cond c (1 + prefix_len p (xs ++ y ∷ ys)) 0) 0))
        ≡ (nat_lt (cond c (1 + prefix_len p xs) 0) (suc (length xs)) && q (get_or (x ∷ xs) (cond c (1 + prefix_len p xs) 0) 0))
    by later true = shift (prefix_len p (xs ++ y ∷ ys)) (xs ++ y ∷ ys) ∙ later ∙ sym (shift (prefix_len p xs) xs)
    by later false = ap (λ c. c && q x) (first (length (xs ++ y ∷ ys))) ∙ ap (λ c. c && q x) (sym (first (length xs)))
      where
        first : (n : ℕ) → nat_lt 0 (suc n) ≡ true
        first n = grind (arith, nat_tests)

number_piece-append : (xs : List ℕ) (b : ℕ) (rest : List ℕ) → StandsApart b → number_piece (xs ++ b ∷ rest) ≡ number_piece xs
number_piece-append xs b rest apart =
    let parts = neither (is_letter b) (is_digit b) apart.word in
    ap₂ (λ (n : ℕ) (c : Bool). cond c (Fault n) (Lexeme Number n)) (prefix_len-append_no is_digit xs b rest parts.1)
    (behind-append is_digit is_letter xs b rest parts.1 parts.0)

-- a symbol's byte is not one that stands in no symbol
other_byte : (n b : ℕ) → is_symbol_byte n ≡ true → is_symbol_byte b ≡ false → nat_eq n b ≡ false
other_byte n b is apart = by (nat_eq n b) refl
  where
    same : nat_eq n b ≡ true → n ≡ b
    same e = grind (arith, nat_tests)

    by : (c : Bool) → nat_eq n b ≡ c → c ≡ false
    by true e = let f : is_symbol_byte b ≡ true = subst (λ k. is_symbol_byte k ≡ true) (same e) is in absurd (cc)
    by false e = refl

starts_with-append : (needle xs : List ℕ) (b : ℕ) (rest : List ℕ) → is_symbol_byte b ≡ false → list_all is_symbol_byte needle ≡ true
    → starts_with nat_eq (xs ++ b ∷ rest) needle ≡ starts_with nat_eq xs needle
starts_with-append [] [] b rest apart all = refl
starts_with-append [] (x ∷ xs) b rest apart all = refl
starts_with-append (n ∷ ns) [] b rest apart all = ap (λ c. c && pointwise nat_eq ns (take (length ns) rest)) (other_byte n b ((and_parts _ _ all).0) apart)
starts_with-append (n ∷ ns) (x ∷ xs) b rest apart all = ap (λ c. nat_eq n x && c) (starts_with-append ns xs b rest apart ((and_parts _ _ all).1))

symbol_piece-append : (xs : List ℕ) (b : ℕ) (rest : List ℕ) → is_symbol_byte b ≡ false → symbol_piece (xs ++ b ∷ rest) ≡ symbol_piece xs
symbol_piece-append xs b rest apart =
    step (Lexeme Iff 3) (same (codes "<=>") refl) (step (Lexeme Implies 2) (same (codes "=>") refl) (step (Lexeme Arrow 2) (same (codes "->") refl)
    (step (Lexeme Equals 1) (same (codes "=") refl) (step (Lexeme Not 1) (same (codes "!") refl) (step (Lexeme And 1) (same (codes "&") refl)
    (step (Lexeme Or 1) (same (codes "|") refl) (step (Lexeme Open 1) (same (codes "(") refl) (step (Lexeme Close 1) (same (codes ")") refl)
    (step (Lexeme Dot 1) (same (codes ".") refl) refl)))))))))
  where
    same : (needle : List ℕ) → list_all is_symbol_byte needle ≡ true → starts_with nat_eq (xs ++ b ∷ rest) needle ≡ starts_with nat_eq xs needle
    same needle all = starts_with-append needle xs b rest apart all

    step : (p : Piece) {c d : Bool} → c ≡ d → {r s : Piece} → r ≡ s → cond c p r ≡ cond d p s
    step p e f = ap₂ (λ (c : Bool) (r : Piece). cond c p r) e f

pub piece_of-append : (x : ℕ) (more : List ℕ) (b : ℕ) (rest : List ℕ) → StandsApart b → piece_of (x ∷ (more ++ b ∷ rest)) ≡ piece_of (x ∷ more)
piece_of-append x more b rest apart =
    ap (λ p. cond (is_comment_mark x) End p) (ap (λ p. cond (is_blank x) Blank p)
    (ap₂ (λ (n : ℕ) (p : Piece). cond (is_letter x) (Lexeme Word n) p) (prefix_len-append_no is_word_byte (x ∷ more) b rest apart.word)
    (ap₂ (λ (p q : Piece). cond (is_digit x) p q) (number_piece-append (x ∷ more) b rest apart) (symbol_piece-append (x ∷ more) b rest apart.symbol))))

pub comment_mark_apart : StandsApart 35
comment_mark_apart = record { word = refl; symbol = refl }

-- a blank is a space or a tab
pub blank_cases : (P : ℕ → Type 0) → P 32 → P 9 → (b : ℕ) → is_blank b ≡ true → P b
blank_cases P space tab b h = by (nat_eq b 32) refl
  where
    same : (n : ℕ) → nat_eq b n ≡ true → n ≡ b
    same n e = grind (arith, nat_tests)

    right : (p q : Bool) → p ≡ false → (p || q) ≡ true → q ≡ true
    right true q e f = absurd (cc)
    right false q e f = f

    by : (c : Bool) → nat_eq b 32 ≡ c → P b
    by true e = subst P (same 32 e) space
    by false e = subst P (same 9 (right (nat_eq b 32) (nat_eq b 9) e h)) tab

pub blank_apart : (b : ℕ) → is_blank b ≡ true → StandsApart b
blank_apart = blank_cases StandsApart (record { word = refl; symbol = refl }) (record { word = refl; symbol = refl })

pub piece_of-blank : (rest : List ℕ) (b : ℕ) → is_blank b ≡ true → piece_of (b ∷ rest) ≡ Blank
piece_of-blank rest = blank_cases (λ b. piece_of (b ∷ rest) ≡ Blank) refl refl
