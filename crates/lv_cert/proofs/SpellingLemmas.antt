-- A number's spelling, and what a spelling is worth.
use Rattle.std.proofs.Common.{◌≡◌, ℕ, suc, ◌^◌, ◌<◌, ◌≤◌, Bool, true, false, not, cond, ◌&&◌, nat_lt, nat_eq, List, [], ◌∷◌, ◌++◌, length, drop, get_or, fold, refl, sym, ap, ap₂, subst, ◌∙◌, arith, rules}
use Rattle.std.specs.Prelude.{codes, decimal}
use Rattle.std.specs.Str.{bytes_eq}
use Rattle.std.specs.List.{list_all}
use Rattle.std.proofs.lemmas.Bool.{and_parts, and_from}
use Rattle.std.proofs.lemmas.Bool.Decides.{nat_tests}
use Rattle.std.proofs.lemmas.Slice.Eq.{bytes_eq-Decides}
use Rattle.std.proofs.lemmas.Fmt.{decimal_is_IsNumeral_wide}
use Rattle.std.proofs.lemmas.Str.Parse.{IsNumeralModel, numerals_by_fold}
use Rattle.lv_text.specs.Bytes.{is_digit}
use Rattle.lv_text.specs.Numbers.{with_digit, number_value}
use Rattle.lv_cert.specs.declared.line.Literal.{Literal}
use Rattle.lv_cert.specs.Texts.{literal_word}
use Rattle.lv_cert.specs.Words.{is_inside, has_only_inside, is_word}
use Rattle.lv_cert.specs.Numbers.{is_number, is_positive, is_negated, magnitude, is_literal, literal_value}
use Rattle.lv_cert.specs.Form.{is_within_limit, is_formed_hint, is_formed_literal}

-- texts that are equal by their test
pub same_text : (w t : List ℕ) → bytes_eq w t ≡ true → w ≡ t
same_text w t h = (bytes_eq-Decides w t).0 h

pub test_of_same : (w : List ℕ) → bytes_eq w w ≡ true
test_of_same w = (bytes_eq-Decides w w).1 refl

-- a word that spells a number is the number's spelling
pub spelled : (w : List ℕ) → is_number w ≡ true → decimal (number_value w) ≡ w
spelled w h = sym (same_text w (decimal (number_value w)) (and_parts _ _ h).1)

pub limited : (w : List ℕ) → is_number w ≡ true → is_within_limit (number_value w) ≡ true
limited w h = (and_parts _ _ h).0

below : (n : ℕ) → is_within_limit n ≡ true → n < 10 ^ 64
below n h = let small : n ≤ 10 ^ 30 = grind (arith, nat_tests) in omega arith

numerals : IsNumeralModel (λ ds. list_all is_digit ds ≡ true) number_value
numerals = numerals_by_fold (λ ds. list_all is_digit ds ≡ true) (search rules) (fold with_digit) (search rules)

-- the spelling of a number is worth the number
pub worth : (n : ℕ) → is_within_limit n ≡ true → number_value (decimal n) ≡ n
worth n h = let d = decimal_is_IsNumeral_wide n (below n h) in numerals.same (decimal n) d.0.1 ∙ d.1

pub digits : (n : ℕ) → is_within_limit n ≡ true → list_all is_digit (decimal n) ≡ true
digits n h = numerals.from (decimal n) (decimal_is_IsNumeral_wide n (below n h)).0.1

pub some_digit : (n : ℕ) → is_within_limit n ≡ true → 0 < length (decimal n)
some_digit n h = (decimal_is_IsNumeral_wide n (below n h)).0.0

pub is_number-decimal : (n : ℕ) → is_within_limit n ≡ true → is_number (decimal n) ≡ true
is_number-decimal n h =
    let e = worth n h in
    and_from _ _ (subst (λ m. is_within_limit m ≡ true) (sym e) h) (subst (λ m. bytes_eq (decimal n) (decimal m) ≡ true) (sym e) (test_of_same (decimal n)))

pub is_positive-decimal : (n : ℕ) → is_formed_hint n ≡ true → is_positive (decimal n) ≡ true
is_positive-decimal n h =
    let parts = and_parts _ _ h in
    and_from _ _ (is_number-decimal n parts.0) (subst (λ m. nat_lt 0 m ≡ true) (sym (worth n parts.0)) parts.1)

digit_inside : (b : ℕ) → is_digit b ≡ true → is_inside b ≡ true
digit_inside b h = grind (arith, nat_tests)

pub digits_inside : (w : List ℕ) → list_all is_digit w ≡ true → has_only_inside w ≡ true
digits_inside [] h = refl
digits_inside (b ∷ bs) h = let parts = and_parts _ _ h in and_from _ _ (digit_inside b parts.0) (digits_inside bs parts.1)

pub is_word-decimal : (n : ℕ) → is_within_limit n ≡ true → is_word (decimal n) ≡ true
is_word-decimal n h =
    let some = some_digit n h in let test : nat_lt 0 (length (decimal n)) ≡ true = grind (arith, nat_tests) in
    and_from _ _ test (digits_inside (decimal n) (digits n h))

no_sign : (w : List ℕ) → list_all is_digit w ≡ true → is_negated w ≡ false
no_sign [] h = refl
no_sign (b ∷ bs) h = let d : is_digit b ≡ true = (and_parts _ _ h).0 in first b (length bs) d
  where
    first : (b n : ℕ) → is_digit b ≡ true → (not (nat_eq (suc n) 0) && nat_eq b 45) ≡ false
    first b n d = grind (arith, nat_tests)

-- the word of a literal is worth the literal
literal_back : (s : Bool) (n : ℕ) → is_formed_hint n ≡ true
    → (is_literal (literal_word (record { negated = s; number = n })) ≡ true) × (literal_value (literal_word (record { negated = s; number = n })) ≡ record { negated = s; number = n })
literal_back true n h =
    let sign : is_negated (45 ∷ decimal n) ≡ true = minus (length (decimal n)) in (
      subst (λ c. is_positive (cond c (decimal n) (45 ∷ decimal n)) ≡ true) (sym sign) (is_positive-decimal n h),
      rw sign (ap (λ (m : ℕ). record { negated = true; number = m }) (worth n (and_parts _ _ h).0)),
    )
  where
    minus : (k : ℕ) → (not (nat_eq (suc k) 0) && nat_eq 45 45) ≡ true
    minus k = grind (arith, nat_tests)
literal_back false n h =
    let sign : is_negated (decimal n) ≡ false = no_sign (decimal n) (digits n (and_parts _ _ h).0) in (
      subst (λ c. is_positive (cond c (drop 1 (decimal n)) (decimal n)) ≡ true) (sym sign) (is_positive-decimal n h),
      rw sign (ap (λ (m : ℕ). record { negated = false; number = m }) (worth n (and_parts _ _ h).0)),
    )

pub is_literal-word : (l : Literal) → is_formed_literal l ≡ true → is_literal (literal_word l) ≡ true
is_literal-word l h = (literal_back l.negated l.number h).0

pub literal_worth : (l : Literal) → is_formed_literal l ≡ true → literal_value (literal_word l) ≡ l
literal_worth l h = (literal_back l.negated l.number h).1

-- a word that spells a literal is the literal's word
pub literal_spelled : (w : List ℕ) → is_literal w ≡ true → (literal_word (literal_value w) ≡ w) × (is_formed_literal (literal_value w) ≡ true)
literal_spelled w h = (by (is_negated w) refl, grown)
  where
    parts : (is_number (magnitude w) ≡ true) × (nat_lt 0 (number_value (magnitude w)) ≡ true)
    parts = and_parts _ _ h

    grown : is_formed_literal (literal_value w) ≡ true
    grown = and_from _ _ (limited (magnitude w) parts.0) parts.1

    signed : (u : List ℕ) → (not (nat_eq (length u) 0) && nat_eq (get_or u 0 0) 45) ≡ true → 45 ∷ drop 1 u ≡ u
    signed [] e = absurd (grind (arith, nat_tests))
    signed (b ∷ bs) e = let is : b ≡ 45 = sign b (length bs) e in ap (λ c. c ∷ bs) (sym is)
      where
        sign : (b n : ℕ) → (not (nat_eq (suc n) 0) && nat_eq b 45) ≡ true → b ≡ 45
        sign b n e = grind (arith, nat_tests)

    by : (c : Bool) → is_negated w ≡ c → cond (is_negated w) (codes "-") [] ++ decimal (number_value (magnitude w)) ≡ w
    by true is =
        let m : magnitude w ≡ drop 1 w = ap (λ c. cond c (drop 1 w) w) is in
        ap₂ (λ (c : Bool) (t : List ℕ). cond c (codes "-") [] ++ t) is (spelled (magnitude w) parts.0 ∙ m) ∙ signed w is
    by false is =
        let m : magnitude w ≡ w = ap (λ c. cond c (drop 1 w) w) is in
        ap₂ (λ (c : Bool) (t : List ℕ). cond c (codes "-") [] ++ t) is (spelled (magnitude w) parts.0 ∙ m)

pub is_word-literal : (l : Literal) → is_formed_literal l ≡ true → is_word (literal_word l) ≡ true
is_word-literal l h = by l.negated
  where
    small : is_within_limit l.number ≡ true
    small = (and_parts _ _ h).0

    by : (s : Bool) → is_word (cond s (codes "-") [] ++ decimal l.number) ≡ true
    by true = and_from _ _ (more (length (decimal l.number))) (digits_inside (decimal l.number) (digits l.number small))
      where
        more : (k : ℕ) → nat_lt 0 (suc k) ≡ true
        more k = grind (arith, nat_tests)
    by false = is_word-decimal l.number small
