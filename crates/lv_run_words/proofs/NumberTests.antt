-- A word that is no number by what `clap` asks of it is none of a generated text.
use Rattle.std.proofs.Common.{◌≡◌, ℕ, pos, ◌+◌, ◌-◌, ◌*◌, ◌^◌, nat_eq, nat_lt, nat_le, Bool, true, false, not, ◌&&◌, ◌||◌, List, [], ◌∷◌, length, None, Some, refl, sym, ◌∙◌, ap, ap₂, arith}
use Rattle.std.specs.Prelude.{if◌then◌else◌, fold, option_and_then}
use Rattle.std.specs.List.{list_all}
use Rattle.std.specs.Char.{digit_value}
use Rattle.std.specs.Str.Parse.{digits_value_after, without_leading_plus}
use Rattle.clap.specs.ValueTests.{is_signed_in}
use Rattle.lv_text.specs.Bytes.{is_digit}
use Rattle.lv_text.specs.Numbers.{with_digit, number_value, in_range, number_in_range}
use Rattle.lv_run_words.specs.declared.numbers.TheConstants.{LARGEST}
use Rattle.lv_run_words.specs.Numbers.{in_limits, number_of}

both : (a b : Bool) → (a && b) ≡ true → (a ≡ true) × (b ≡ true)
both true b h = (refl, h)
both false b h = absurd (cc)

digit_is : (b : ℕ) → is_digit b ≡ true → digit_value b ≡ b - 48
digit_is b is =
    let low : nat_lt b 48 ≡ false = grind arith in
    let high : nat_lt b 58 ≡ true = grind arith in
    rw (low, high) refl

small : (b : ℕ) → is_digit b ≡ true → nat_lt (digit_value b) 10 ≡ true
small b is = let e = digit_is b is in rw e (grind arith)

value_is : (n : ℕ) (word : List ℕ) → list_all is_digit word ≡ true → digits_value_after 10 n word ≡ fold with_digit n word
value_is n [] all = refl
value_is n (b ∷ word) all =
    let parts = both (is_digit b) (list_all is_digit word) all in
    ap (λ (d : ℕ). digits_value_after 10 (n * 10 + d) word) (digit_is b parts.0) ∙ value_is (n * 10 + (b - 48)) word parts.1

all_small : (word : List ℕ) → list_all is_digit word ≡ true → list_all (λ d. nat_lt (digit_value d) 10) word ≡ true
all_small [] all = refl
all_small (b ∷ word) all =
    let parts = both (is_digit b) (list_all is_digit word) all in ap₂ (λ (p q : Bool). p && q) (small b parts.0) (all_small word parts.1)

unsigned : (b : ℕ) (word : List ℕ) → is_digit b ≡ true → without_leading_plus (b ∷ word) ≡ b ∷ word
unsigned b word is =
    let plus : nat_eq b 43 ≡ false = grind arith in
    rw plus refl

-- what is asked of digits is that their number is within the limits
asked_of : (b : ℕ) (word : List ℕ) → list_all is_digit (b ∷ word) ≡ true
    → is_signed_in (pos 1) (pos 1000000) (b ∷ word) ≡ (nat_lt (number_value (b ∷ word)) (2 ^ 63) && (nat_le 1 (number_value (b ∷ word)) && nat_le (number_value (b ∷ word)) 1000000))
asked_of b word all =
    let parts = both (is_digit b) (list_all is_digit word) all in
    let minus : nat_eq b 45 ≡ false = let is = parts.0 in grind arith in
    let some : nat_lt 0 (length (b ∷ word)) ≡ true = grind arith in
    let digits = all_small (b ∷ word) all in
    let number = value_is 0 (b ∷ word) all in
    rw (minus, unsigned b word parts.0, some, digits, number) refl

outside : (n : ℕ) → (nat_lt n (2 ^ 63) && (nat_le 1 n && nat_le n 1000000)) ≡ false → in_limits n ≡ None
outside n bad = by (nat_eq n 0 || nat_lt LARGEST n) refl
  where
    by : (c : Bool) → (nat_eq n 0 || nat_lt LARGEST n) ≡ c → in_limits n ≡ None
    by true is = ap (λ (t : Bool). if t then None else Some n) is
    by false is = absurd (grind arith)

none_of : (n : ℕ) → in_limits n ≡ None → option_and_then in_limits (in_range n) ≡ None
none_of n none = by (nat_lt n (2 ^ 128))
  where
    by : (c : Bool) → option_and_then in_limits (if c then Some n else None) ≡ None
    by true = none
    by false = refl

pub number_none : (word : List ℕ) → is_signed_in (pos 1) (pos 1000000) word ≡ false → number_of word ≡ None
number_none [] bad = refl
number_none (b ∷ word) bad = by (list_all is_digit (b ∷ word)) refl
  where
    long : nat_eq (length (b ∷ word)) 0 ≡ false
    long = grind arith

    by : (c : Bool) → list_all is_digit (b ∷ word) ≡ c → number_of (b ∷ word) ≡ None
    by false is = ap₂ (λ (s t : Bool). if s || not t then None else option_and_then in_limits (number_in_range (b ∷ word))) long is
    by true is =
        ap₂ (λ (s t : Bool). if s || not t then None else option_and_then in_limits (number_in_range (b ∷ word))) long is
        ∙ none_of (number_value (b ∷ word)) (outside (number_value (b ∷ word)) (sym (asked_of b word is) ∙ bad))
