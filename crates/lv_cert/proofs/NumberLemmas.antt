-- What a word of digits is worth, and how a number is spelled.
use Rattle.std.proofs.Common.{◌≡◌, ℕ, ◌+◌, ◌^◌, ◌<◌, ◌≤◌, Bool, true, false, cond, nat_le, List, length, drop, get_or, fold, Some, None, refl, sym, ap, subst, ◌∙◌, arith}
use Rattle.std.proofs.lemmas.Bool.Decides.{nat_tests}
use Rattle.std.proofs.lemmas.List.{drop_all, drop_more}
use Rattle.lv_text.specs.Numbers.{with_digit, number_value}
use Rattle.lv_text.proofs.NumberFacts.{grows}
use Rattle.lv_cert.specs.Numbers.{within_limit}

fits : (n : ℕ) → n ≤ 10 ^ 30 → within_limit n ≡ Some n
fits n h = let test : nat_le n (10 ^ 30) ≡ true = grind (arith, nat_tests) in rw test refl

fits_not : (n : ℕ) → 10 ^ 30 < n → within_limit n ≡ None
fits_not n h = let test : nat_le n (10 ^ 30) ≡ false = grind (arith, nat_tests) in rw test refl

wide : (n : ℕ) → within_limit n ≡ None → 10 ^ 30 < n
wide n h = by (nat_le n (10 ^ 30)) refl h
  where
    by : (c : Bool) → nat_le n (10 ^ 30) ≡ c → cond c (Some n) None ≡ None → 10 ^ 30 < n
    by true is e = absurd (cc)
    by false is e = grind (arith, nat_tests)

-- the value at the end of the word
pub value_at_end : (word : List ℕ) (i value : ℕ) → length word ≤ i → fold with_digit value (drop i word) ≡ number_value word → value ≤ 10 ^ 30
    → Some value ≡ within_limit (number_value word)
value_at_end word i value past whole small =
    let e : value ≡ number_value word = subst (λ xs. fold with_digit value xs ≡ number_value word) (drop_all i word past) whole in
    sym (fits value small) ∙ ap within_limit e

-- a value that is too wide before the end is so at the end
pub value_too_wide : (word : List ℕ) (i value : ℕ) → i < length word → fold with_digit value (drop i word) ≡ number_value word
    → within_limit (with_digit value (get_or word i 0)) ≡ None → within_limit (number_value word) ≡ None
value_too_wide word i value inside whole none =
    let e : fold with_digit (with_digit value (get_or word i 0)) (drop (i + 1) word) ≡ number_value word =
    subst (λ xs. fold with_digit value xs ≡ number_value word) (drop_more word i 0 inside) whole in
    let least : with_digit value (get_or word i 0) ≤ fold with_digit (with_digit value (get_or word i 0)) (drop (i + 1) word) =
    grows (drop (i + 1) word) (with_digit value (get_or word i 0)) in
    let big : 10 ^ 30 < with_digit value (get_or word i 0) = wide _ none in
    fits_not (number_value word) (omega arith)
