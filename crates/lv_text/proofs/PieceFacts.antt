-- A piece lies within the rest of the line, and a token has a text of its kind.
use Rattle.std.proofs.Common.{◌≡◌, ℕ, zero, suc, ◌+◌, ◌<◌, ◌≤◌, Bool, true, false, ◌&&◌, ◌||◌, cond, List, [], ◌∷◌, length, take, get_or, refl, sym, ap, subst, ◌∙◌, arith, nat_lt, nat_eq, codes}
use Rattle.std.proofs.lemmas.Bool.{and_parts, and_from}
use Rattle.std.proofs.lemmas.List.{length-take}
use Rattle.std.proofs.lemmas.List.Sums.{prefix_len-le-length}
use Rattle.std.specs.List.{prefix_len, list_all, starts_with}
use Rattle.std.specs.Cmp.Lexicographic.{pointwise, as_long}
use Rattle.lv_text.specs.declared.lexer.TokenKind.{TokenKind}
use Rattle.lv_text.specs.declared.lexer.TokenKind.TheVariants.{Word, Number, Iff, Implies, Arrow, Equals, Not, And, Or, Open, Close, Dot}
use Rattle.lv_text.specs.declared.lexer.Piece.{Piece}
use Rattle.lv_text.specs.declared.lexer.Piece.TheVariants.{End, Blank, Lexeme, Fault}
use Rattle.lv_text.specs.Bytes.{is_letter, is_digit, is_word_byte, is_blank, is_comment_mark}
use Rattle.lv_text.specs.Pieces.{piece_of, number_piece, symbol_piece}
use Rattle.lv_text.specs.Kinds.{BeginsWith, has_kind}
use Rattle.lv_text.proofs.Choices.{if_holds}
use borrow.Author.Tests.{ltb-true}

-- the front that passes a test does
pub list_all-prefix : (p : ℕ → Bool) (xs : List ℕ) → list_all p (take (prefix_len p xs) xs) ≡ true
list_all-prefix p [] = refl
list_all-prefix p (x ∷ xs) = by (list_all-prefix p xs) (p x) refl
  where
    by : list_all p (take (prefix_len p xs) xs) ≡ true → (c : Bool) → p x ≡ c → list_all p (take (cond c (1 + prefix_len p xs) 0) (x ∷ xs)) ≡ true
    by later true is =
        let e : suc (prefix_len p xs) ≡ 1 + prefix_len p xs = omega arith in
        subst (λ n. list_all p (take n (x ∷ xs)) ≡ true) e (and_from (p x) _ is later)
    by later false is = refl

-- a front that is not empty begins as the list does
pub first-take : (n : ℕ) (x : ℕ) (xs : List ℕ) → 0 < n → get_or (take n (x ∷ xs)) 0 0 ≡ x
first-take zero x xs h = absurd (omega arith)
first-take (suc n) x xs h = refl

-- a first element that passes counts
pub prefix_len-first : (p : ℕ → Bool) (x : ℕ) (xs : List ℕ) → p x ≡ true → 0 < prefix_len p (x ∷ xs)
prefix_len-first p x xs is = rw is (omega arith)

-- the first n elements, where the list is at least that long
pub begins_fits : (needle xs : List ℕ) → starts_with nat_eq xs needle ≡ true → length needle ≤ length xs
begins_fits needle xs h =
    let e : length needle ≡ length (take (length needle) xs) = as_long nat_eq needle (take (length needle) xs) h in
    omega (arith, simp length-take at e)

number_fits : (b : ℕ) (more : List ℕ) → is_digit b ≡ true → BeginsWith (b ∷ more) (number_piece (b ∷ more))
number_fits b more is =
    let xs : List ℕ = b ∷ more in
    let n : ℕ = prefix_len is_digit xs in
    if_holds (BeginsWith xs) (nat_lt n (length xs) && is_letter (get_or xs n 0)) (Fault n) (Lexeme Number n)
    (λ h. ltb-true n (length xs) ((and_parts _ _ h).0))
    (λ _. (
      prefix_len-first is_digit b more is,
      prefix_len-le-length is_digit xs,
      and_from _ _ (subst (λ c. is_digit c ≡ true) (sym (first-take n b more (prefix_len-first is_digit b more is))) is) (list_all-prefix is_digit xs),
    ))

word_fits : (b : ℕ) (more : List ℕ) → is_letter b ≡ true → BeginsWith (b ∷ more) (Lexeme Word (prefix_len is_word_byte (b ∷ more)))
word_fits b more is =
    let word : is_word_byte b ≡ true = ap (λ c. c || is_digit b) is in
    let xs : List ℕ = b ∷ more in
    let n : ℕ = prefix_len is_word_byte xs in
    let some : 0 < n = prefix_len-first is_word_byte b more word in (
      some,
      prefix_len-le-length is_word_byte xs,
      and_from _ _ (subst (λ c. is_letter c ≡ true) (sym (first-take n b more some)) is) (list_all-prefix is_word_byte xs),
    )

-- a symbol that stands there is a piece
symbol_stands : (kind : TokenKind) (needle xs : List ℕ) → 0 < length needle → ((text : List ℕ) → has_kind kind text ≡ pointwise nat_eq needle text)
    → starts_with nat_eq xs needle ≡ true → BeginsWith xs (Lexeme kind (length needle))
symbol_stands kind needle xs some of_kind h = (some, begins_fits needle xs h, of_kind (take (length needle) xs) ∙ h)

symbol_fits : (xs : List ℕ) → 0 < length xs → BeginsWith xs (symbol_piece xs)
symbol_fits xs some =
    if_holds P (starts_with nat_eq xs (codes "<=>")) (Lexeme Iff 3) _ (symbol_stands Iff (codes "<=>") xs (omega arith) (λ _. refl)) (λ _.
    if_holds P (starts_with nat_eq xs (codes "=>")) (Lexeme Implies 2) _ (symbol_stands Implies (codes "=>") xs (omega arith) (λ _. refl)) (λ _.
    if_holds P (starts_with nat_eq xs (codes "->")) (Lexeme Arrow 2) _ (symbol_stands Arrow (codes "->") xs (omega arith) (λ _. refl)) (λ _.
    if_holds P (starts_with nat_eq xs (codes "=")) (Lexeme Equals 1) _ (symbol_stands Equals (codes "=") xs (omega arith) (λ _. refl)) (λ _.
    if_holds P (starts_with nat_eq xs (codes "!")) (Lexeme Not 1) _ (symbol_stands Not (codes "!") xs (omega arith) (λ _. refl)) (λ _.
    if_holds P (starts_with nat_eq xs (codes "&")) (Lexeme And 1) _ (symbol_stands And (codes "&") xs (omega arith) (λ _. refl)) (λ _.
    if_holds P (starts_with nat_eq xs (codes "|")) (Lexeme Or 1) _ (symbol_stands Or (codes "|") xs (omega arith) (λ _. refl)) (λ _.
    if_holds P (starts_with nat_eq xs (codes "(")) (Lexeme Open 1) _ (symbol_stands Open (codes "(") xs (omega arith) (λ _. refl)) (λ _.
    if_holds P (starts_with nat_eq xs (codes ")")) (Lexeme Close 1) _ (symbol_stands Close (codes ")") xs (omega arith) (λ _. refl)) (λ _.
    if_holds P (starts_with nat_eq xs (codes ".")) (Lexeme Dot 1) (Fault 0) (symbol_stands Dot (codes ".") xs (omega arith) (λ _. refl)) (λ _. some))))))))))
  where
    P : Piece → Type 0
    P = BeginsWith xs

-- what the rest of a line begins with stands there
pub piece_fits : (xs : List ℕ) → BeginsWith xs (piece_of xs)
piece_fits [] = tt
piece_fits (b ∷ more) =
    let xs : List ℕ = b ∷ more in
    let some : 0 < length xs = omega arith in
    if_holds (BeginsWith xs) (is_comment_mark b) End _ (λ _. tt) (λ _.
    if_holds (BeginsWith xs) (is_blank b) Blank _ (λ _. some) (λ _.
    if_holds (BeginsWith xs) (is_letter b) (Lexeme Word (prefix_len is_word_byte xs)) _ (word_fits b more) (λ _.
    if_holds (BeginsWith xs) (is_digit b) (number_piece xs) (symbol_piece xs) (number_fits b more) (λ _. symbol_fits xs some))))
