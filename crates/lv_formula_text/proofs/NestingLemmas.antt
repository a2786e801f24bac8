-- Counting parentheses and operators token by token.
use Rattle.std.proofs.Common.{◌≡◌, ℕ, ◌+◌, ◌-◌, ◌<◌, ◌≤◌, Bool, true, false, ◌||◌, nat_lt, List, [], ◌∷◌, drop, length, zero, suc, Option, Some, None, refl, sym, ap, ap₂, ◌∙◌, arith}
use Rattle.std.proofs.lemmas.Bool.Decides.{nat_tests}
use Rattle.std.specs.Option.{option_map_or}
use Rattle.lv_base.specs.declared.limits.TheConstants.{OPEN_PARENTHESES, NESTING_OPERATORS}
use Rattle.lv_text.specs.declared.lexer.TokenKind.{TokenKind}
use Rattle.lv_text.specs.Lexemes.{Lexeme, kind_at}
use Rattle.lv_formula_text.specs.Nesting.{one_if, opens, closes, nests, how_many, some_front, open_by, is_too_open, is_too_deep}
use Rattle.lv_formula_text.proofs.CursorLemmas.{token_at}

is_there : (ts : List Lexeme) (place : ℕ) → place < length ts → kind_at ts place ≡ None → ⊥
is_there [] place inside e = absurd (omega arith)
is_there (t ∷ ts) zero inside e = absurd (cc)
is_there (t ∷ ts) (suc place) inside e = is_there ts place (omega arith) e

-- the token at a place counts by its kind
there : (ts : List Lexeme) (place : ℕ) → place < length ts → (t : Lexeme) × (drop place ts ≡ t ∷ drop (place + 1) ts) × (kind_at ts place ≡ Some t.kind)
there ts place inside = by (kind_at ts place) refl
  where
    by : (k : Option TokenKind) → kind_at ts place ≡ k → (t : Lexeme) × (drop place ts ≡ t ∷ drop (place + 1) ts) × (kind_at ts place ≡ Some t.kind)
    by (Some k) is = let found = (token_at ts place k is).1 in (found.0, found.1, is ∙ ap Some (sym found.2))
    by None is = absurd (is_there ts place inside is)

pub how_many_step : (test : TokenKind → Bool) (ts : List Lexeme) (place bit : ℕ) → place < length ts → bit ≡ one_if (option_map_or test (kind_at ts place) false)
    → how_many test (drop place ts) ≡ bit + how_many test (drop (place + 1) ts)
how_many_step test ts place bit inside is =
    let found = there ts place inside in
    let counted : bit ≡ one_if (test found.0.kind) = is ∙ ap (λ k. one_if (option_map_or test k false)) found.2 in
    ap (how_many test) found.1 ∙ ap (λ n. n + how_many test (drop (place + 1) ts)) (sym counted)

pub some_same : (p q : List Lexeme → Bool) (ts : List Lexeme) → ((front : List Lexeme) → p front ≡ q front) → some_front p ts ≡ some_front q ts
some_same p q [] same = same []
some_same p q (t ∷ ts) same = ap₂ (λ (x y : Bool). x || y) (same []) (some_same (λ front. p (t ∷ front)) (λ front. q (t ∷ front)) ts (λ front. same (t ∷ front)))

-- with so many opened and closed before
abbrev pub exceeds : ℕ → ℕ → List Lexeme → Bool
exceeds opened closed front = nat_lt OPEN_PARENTHESES ((opened + how_many opens front) - (closed + how_many closes front))

pub open_start : (ts : List Lexeme) → some_front (exceeds 0 0) ts ≡ is_too_open ts
open_start ts = some_same (exceeds 0 0) (λ front. nat_lt OPEN_PARENTHESES (open_by front)) ts (λ front. let e : (0 + how_many opens front) - (0 + how_many closes front) ≡ open_by front = omega arith in ap (nat_lt OPEN_PARENTHESES) e)

pub open_step : (ts : List Lexeme) (place opened closed more other : ℕ) → place < length ts → nat_lt OPEN_PARENTHESES (opened - closed) ≡ false
    → more ≡ one_if (option_map_or opens (kind_at ts place) false) → other ≡ one_if (option_map_or closes (kind_at ts place) false)
    → some_front (exceeds opened closed) (drop place ts) ≡ some_front (exceeds (opened + more) (closed + other)) (drop (place + 1) ts)
open_step ts place opened closed more other inside small a b =
    let found = there ts place inside in
    let none : exceeds opened closed [] ≡ false = let e : (opened + 0) - (closed + 0) ≡ opened - closed = omega arith in ap (nat_lt OPEN_PARENTHESES) e ∙ small in
    let m : more ≡ one_if (opens found.0.kind) = a ∙ ap (λ k. one_if (option_map_or opens k false)) found.2 in
    let o : other ≡ one_if (closes found.0.kind) = b ∙ ap (λ k. one_if (option_map_or closes k false)) found.2 in
    ap (some_front (exceeds opened closed)) found.1
    ∙ ap (λ x. x || some_front (λ front. exceeds opened closed (found.0 ∷ front)) (drop (place + 1) ts)) none
    ∙ some_same (λ front. exceeds opened closed (found.0 ∷ front)) (exceeds (opened + more) (closed + other)) (drop (place + 1) ts) (same found.0 m o)
  where
    same : (t : Lexeme) → more ≡ one_if (opens t.kind) → other ≡ one_if (closes t.kind) → (front : List Lexeme)
        → exceeds opened closed (t ∷ front) ≡ exceeds (opened + more) (closed + other) front
    same t m o front =
        let x : opened + how_many opens (t ∷ front) ≡ (opened + more) + how_many opens front = omega arith in
        let y : closed + how_many closes (t ∷ front) ≡ (closed + other) + how_many closes front = omega arith in
        ap₂ (λ (m n : ℕ). nat_lt OPEN_PARENTHESES (m - n)) x y

pub open_found : (ts : List Lexeme) (opened closed : ℕ) → nat_lt OPEN_PARENTHESES (opened - closed) ≡ true → some_front (exceeds opened closed) ts ≡ true
open_found ts opened closed big =
    let here : exceeds opened closed [] ≡ true = let e : (opened + 0) - (closed + 0) ≡ opened - closed = omega arith in ap (nat_lt OPEN_PARENTHESES) e ∙ big in
    by ts here
  where
    by : (xs : List Lexeme) → exceeds opened closed [] ≡ true → some_front (exceeds opened closed) xs ≡ true
    by [] h = h
    by (t ∷ xs) h = ap (λ x. x || some_front (λ front. exceeds opened closed (t ∷ front)) xs) h

pub open_end : (opened closed : ℕ) → nat_lt OPEN_PARENTHESES (opened - closed) ≡ false → some_front (exceeds opened closed) [] ≡ false
open_end opened closed small = let e : (opened + 0) - (closed + 0) ≡ opened - closed = omega arith in ap (nat_lt OPEN_PARENTHESES) e ∙ small

pub one_if_small : (test : Bool) → one_if test ≤ 1
one_if_small true = omega arith
one_if_small false = omega arith

-- what the test of the loop says
pub too_many : (n m : ℕ) → n ≡ m → OPEN_PARENTHESES < n → nat_lt OPEN_PARENTHESES m ≡ true
too_many n m e h = grind (arith, nat_tests)

pub few_enough : (n m : ℕ) → n ≡ m → n ≤ OPEN_PARENTHESES → nat_lt OPEN_PARENTHESES m ≡ false
few_enough n m e h = grind (arith, nat_tests)

-- a line with no more tokens than parentheses may be open
none_at_front : (test : List Lexeme → Bool) (ts : List Lexeme) → ((front : List Lexeme) → length front ≤ length ts → test front ≡ false) → some_front test ts ≡ false
none_at_front test [] none = none [] (omega arith)
none_at_front test (t ∷ ts) none =
    ap₂ (λ (x y : Bool). x || y) (none [] (omega arith))
    (none_at_front (λ front. test (t ∷ front)) ts (λ front short. let more : length (t ∷ front) ≤ length (t ∷ ts) = omega (arith, short) in none (t ∷ front) more))

at_most_all : (test : TokenKind → Bool) (ts : List Lexeme) → how_many test ts ≤ length ts
at_most_all test [] = omega arith
at_most_all test (t ∷ ts) = let own = one_if_small (test t.kind) in let rest = at_most_all test ts in omega (arith, own, rest)

pub short_is_shallow : (ts : List Lexeme) → length ts ≤ OPEN_PARENTHESES → is_too_deep ts ≡ false
short_is_shallow ts short =
    ap₂ (λ (x y : Bool). x || y)
    (none_at_front (λ front. nat_lt OPEN_PARENTHESES (open_by front)) ts (λ front part. let few = at_most_all opens front in let some : open_by front ≤ OPEN_PARENTHESES = omega (arith, few, part, short) in grind (arith, nat_tests, some)))
    (let few = at_most_all nests ts in let some : how_many nests ts ≤ NESTING_OPERATORS = omega (arith, few, short) in grind (arith, nat_tests, some))
