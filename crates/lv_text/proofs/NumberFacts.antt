-- A number only grows with more digits behind it.
use Rattle.std.proofs.Common.{◌≡◌, ℕ, ◌+◌, ◌^◌, ◌<◌, ◌≤◌, Bool, true, false, cond, nat_lt, List, [], ◌∷◌, length, drop, get_or, fold, Some, None, refl, sym, ap, subst, ◌∙◌, arith, rules}
use Rattle.std.proofs.lemmas.Bool.Decides.{nat_tests}
use Rattle.std.proofs.lemmas.List.{drop_all, drop_more}
use Rattle.std.proofs.lemmas.Fmt.{digits_value-decimal, digits_decimal}
use Rattle.std.proofs.lemmas.Str.Parse.{IsNumeralModel, numerals_by_fold}
use Rattle.std.specs.List.{list_all}
use Rattle.lv_text.specs.Bytes.{is_digit}
use Rattle.lv_text.specs.Laws.{PrintedNumberIsItself}
use Rattle.lv_text.specs.Numbers.{with_digit, number_value, in_range, number_in_range}

pub grows : (xs : List ℕ) (n : ℕ) → n ≤ fold with_digit n xs
grows [] n = omega arith
grows (x ∷ xs) n =
    let later : with_digit n x ≤ fold with_digit (with_digit n x) xs = grows xs (with_digit n x) in
    omega arith

fits : (n : ℕ) → n < 2 ^ 128 → in_range n ≡ Some n
fits n h = let test : nat_lt n (2 ^ 128) ≡ true = grind (arith, nat_tests) in rw test refl

fits_not : (n : ℕ) → 2 ^ 128 ≤ n → in_range n ≡ None
fits_not n h = let test : nat_lt n (2 ^ 128) ≡ false = grind (arith, nat_tests) in rw test refl

wide : (n : ℕ) → in_range n ≡ None → 2 ^ 128 ≤ n
wide n h = by (nat_lt n (2 ^ 128)) refl h
  where
    by : (c : Bool) → nat_lt n (2 ^ 128) ≡ c → cond c (Some n) None ≡ None → 2 ^ 128 ≤ n
    by true is e = absurd (cc)
    by false is e = grind (arith, nat_tests)

-- the value at the end of the text
pub number_at_end : (text : List ℕ) (i value : ℕ) → length text ≤ i → fold with_digit value (drop i text) ≡ number_value text → value < 2 ^ 128
    → Some value ≡ number_in_range text
number_at_end text i value past whole small =
    let e : value ≡ number_value text = subst (λ xs. fold with_digit value xs ≡ number_value text) (drop_all i text past) whole in
    sym (fits value small) ∙ ap in_range e

-- a value that is too wide before the end is so at the end
pub number_too_wide : (text : List ℕ) (i value : ℕ) → i < length text → fold with_digit value (drop i text) ≡ number_value text
    → in_range (with_digit value (get_or text i 0)) ≡ None → number_in_range text ≡ None
number_too_wide text i value inside whole none =
    let e : fold with_digit (with_digit value (get_or text i 0)) (drop (i + 1) text) ≡ number_value text =
    subst (λ xs. fold with_digit value xs ≡ number_value text) (drop_more text i 0 inside) whole in
    let least : with_digit value (get_or text i 0) ≤ fold with_digit (with_digit value (get_or text i 0)) (drop (i + 1) text) =
    grows (drop (i + 1) text) (with_digit value (get_or text i 0)) in
    let big : 2 ^ 128 ≤ with_digit value (get_or text i 0) = wide _ none in
    fits_not (number_value text) (omega arith)

-- digits and their value, as what is printed speaks of them
numerals : IsNumeralModel (λ ds. list_all is_digit ds ≡ true) number_value
numerals = numerals_by_fold (λ ds. list_all is_digit ds ≡ true) (search rules) (fold with_digit) (search rules)

pub printed_law : PrintedNumberIsItself
printed_law n h = (digits_decimal numerals n h, digits_value-decimal numerals n h)
