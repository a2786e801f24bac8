-- Laws of truth values and of tests of numbers.
use Rattle.std.proofs.Common.{◌≡◌, ℕ, ◌<◌, Bool, true, false, not, ◌||◌, nat_eq, nat_lt, refl, arith}
use Rattle.std.proofs.lemmas.Bool.Decides.{nat_tests}

pub eq_is : (a b : ℕ) → a ≡ b → nat_eq a b ≡ true
eq_is a b e = grind (arith, nat_tests)

pub eq_isnt : (a b : ℕ) → (a ≡ b → ⊥) → nat_eq a b ≡ false
eq_isnt a b e = grind (arith, nat_tests)

pub eq_from : (a b : ℕ) → nat_eq a b ≡ true → a ≡ b
eq_from a b e = grind (arith, nat_tests)

pub eq_swap : (a b : ℕ) → nat_eq a b ≡ nat_eq b a
eq_swap a b = grind (arith, nat_tests)

pub lt_is : (a b : ℕ) → a < b → nat_lt a b ≡ true
lt_is a b h = grind (arith, nat_tests)

pub not_true : (b : Bool) → (b ≡ true → ⊥) → b ≡ false
not_true true never = absurd (never refl)
not_true false never = refl

pub from_not : (b : Bool) → not b ≡ true → b ≡ false
from_not true e = absurd (cc)
from_not false e = refl

pub or_false : (b : Bool) → (b || false) ≡ b
or_false true = refl
or_false false = refl

pub or_left : (a b : Bool) → a ≡ true → (a || b) ≡ true
or_left true b e = refl
or_left false b e = absurd (cc)

pub or_parts : (a b : Bool) → (a || b) ≡ false → (a ≡ false) × (b ≡ false)
or_parts true b e = absurd (cc)
or_parts false b e = (refl, e)

pub or_right_only : (a b : Bool) → (a || b) ≡ true → a ≡ false → b ≡ true
or_right_only true b e f = absurd (cc)
or_right_only false b e f = e
