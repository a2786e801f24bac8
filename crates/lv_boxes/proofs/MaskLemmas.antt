-- Which choices a mask has after one is kept alone, or taken out.
use Rattle.std.proofs.Common.{◌≡◌, ◌≢◌, ℕ, zero, suc, ◌+◌, ◌^◌, ◌%◌, ◌<◌, ◌≤◌, Bool, true, false, not, nat_eq, ◌&&◌, ◌⊎◌, List, [], ◌∷◌, length, cond, refl, sym, ◌∙◌, ap, subst, inl, inr, arith}
use Rattle.std.specs.Prelude.{bit_xor, slice_index_or}
use Rattle.std.specs.Int.{bit_at}
use Rattle.std.proofs.lemmas.Nat.Bits.{bit_at_and, bit_at_xor, bit_at-pow_same, bit_at-pow_other, bit_at-lt, bit_at_above, and_pow}
use Rattle.std.proofs.lemmas.Bool.{cases_eq, and_parts, eq-eqb, ne_eqb}
use Rattle.lv_boxes.specs.Masks.{has_choice, only_choice, without_choice, without_others, only_group, without_group}
use Rattle.lv_boxes.specs.Groups.{group_of}

-- a word has no choice from 64 on
pub has_choice-past : (mask choice : ℕ) → mask < 2 ^ 64 → 64 ≤ choice → has_choice mask choice ≡ false
has_choice-past mask choice fits past = rw (bit_at_above mask 64 choice fits past) refl

pub only_choice-past : (mask choice : ℕ) → mask < 2 ^ 64 → 64 ≤ choice → only_choice mask choice ≡ 0
only_choice-past mask choice fits past = rw (and_pow mask choice, bit_at_above mask 64 choice fits past) (omega arith)

only_same : (mask choice : ℕ) → bit_at (only_choice mask choice) choice ≡ bit_at mask choice
only_same mask choice = rw (bit_at_and mask (2 ^ choice) choice, bit_at-pow_same choice) (omega (arith, bit_at-lt mask choice))

only_other : (mask choice c : ℕ) → c ≢ choice → bit_at (only_choice mask choice) c ≡ 0
only_other mask choice c other = rw (bit_at_and mask (2 ^ choice) c, bit_at-pow_other choice c other) (omega arith)

without_same : (mask choice : ℕ) → bit_at (without_choice mask choice) choice ≡ 0
without_same mask choice = rw (bit_at_xor mask (only_choice mask choice) choice, only_same mask choice) (omega arith)

without_other : (mask choice c : ℕ) → c ≢ choice → bit_at (without_choice mask choice) c ≡ bit_at mask c
without_other mask choice c other = rw (bit_at_xor mask (only_choice mask choice) c, only_other mask choice c other) (omega (arith, bit_at-lt mask c))

pub has_choice-only : (mask choice c : ℕ) → has_choice (only_choice mask choice) c ≡ (has_choice mask c && nat_eq c choice)
has_choice-only mask choice c = by (cases_eq c choice)
  where
    by : (c ≡ choice) ⊎ (c ≡ choice → ⊥) → has_choice (only_choice mask choice) c ≡ (has_choice mask c && nat_eq c choice)
    by (inl same) = rw (same, only_same mask choice) (grind arith)
    by (inr other) = rw (only_other mask choice c other) (grind arith)

pub has_choice-without : (mask choice c : ℕ) → has_choice (without_choice mask choice) c ≡ (has_choice mask c && not (nat_eq c choice))
has_choice-without mask choice c = by (cases_eq c choice)
  where
    by : (c ≡ choice) ⊎ (c ≡ choice → ⊥) → has_choice (without_choice mask choice) c ≡ (has_choice mask c && not (nat_eq c choice))
    by (inl same) = rw (same, without_same mask choice) (grind arith)
    by (inr other) = rw (without_other mask choice c other) (grind arith)

and_true : (b : Bool) → (b && not false) ≡ b
and_true true = refl
and_true false = refl

and_one : (b : Bool) → (b && true) ≡ b
and_one true = refl
and_one false = refl

-- a choice before those that are looked at is left
others_before : (mask group n : ℕ) (numbers : List ℕ) (c : ℕ) → c < n → has_choice (without_others mask group n numbers) c ≡ has_choice mask c
others_before mask group n [] c before = refl
others_before mask group n (x ∷ xs) c before =
    others_before (cond (nat_eq x group) mask (without_choice mask n)) group (n + 1) xs c (omega (arith, before)) ∙ by (nat_eq x group)
  where
    by : (b : Bool) → has_choice (cond b mask (without_choice mask n)) c ≡ has_choice mask c
    by true = refl
    by false = has_choice-without mask n c ∙ (let other : c ≢ n = omega (arith, before) in rw (ne_eqb c n other) (and_true (has_choice mask c)))

-- of the choices looked at, those of the group are left
others_at : (mask group n i : ℕ) (numbers : List ℕ) → i < length numbers → has_choice (without_others mask group n numbers) (n + i) ≡ (has_choice mask (n + i) && nat_eq (slice_index_or numbers i 0) group)
others_at mask group n i [] within = absurd (omega arith)
others_at mask group n zero (x ∷ xs) within =
    others_before (cond (nat_eq x group) mask (without_choice mask n)) group (n + 1) xs (n + 0) (omega arith) ∙ by (nat_eq x group)
  where
    by : (b : Bool) → has_choice (cond b mask (without_choice mask n)) (n + 0) ≡ (has_choice mask (n + 0) && b)
    by true = sym (and_one (has_choice mask (n + 0)))
    by false = has_choice-without mask n (n + 0) ∙ (let same : n + 0 ≡ n = omega arith in rw (eq-eqb (n + 0) n same) refl)
others_at mask group n (suc i) (x ∷ xs) within =
    let place : n + suc i ≡ n + 1 + i = omega arith in
    let fits : i < length xs = omega (arith, within) in
    ap (λ c. has_choice (without_others (cond (nat_eq x group) mask (without_choice mask n)) group (n + 1) xs) c) place
    ∙ others_at (cond (nat_eq x group) mask (without_choice mask n)) group (n + 1) i xs fits
    ∙ ap (λ c. c && nat_eq (slice_index_or xs i 0) group) (by (nat_eq x group) ∙ ap (λ c. has_choice mask c) (sym place))
  where
    by : (b : Bool) → has_choice (cond b mask (without_choice mask n)) (n + 1 + i) ≡ has_choice mask (n + 1 + i)
    by true = refl
    by false = has_choice-without mask n (n + 1 + i) ∙ (let other : n + 1 + i ≢ n = omega arith in rw (ne_eqb (n + 1 + i) n other) (and_true (has_choice mask (n + 1 + i))))

-- no choice comes to it
others_within : (mask group n : ℕ) (numbers : List ℕ) (c : ℕ) → has_choice (without_others mask group n numbers) c ≡ true → has_choice mask c ≡ true
others_within mask group n [] c has = has
others_within mask group n (x ∷ xs) c has = by (nat_eq x group) (others_within (cond (nat_eq x group) mask (without_choice mask n)) group (n + 1) xs c has)
  where
    by : (b : Bool) → has_choice (cond b mask (without_choice mask n)) c ≡ true → has_choice mask c ≡ true
    by true h = h
    by false h = (and_parts (has_choice mask c) (not (nat_eq c n)) (sym (has_choice-without mask n c) ∙ h)).0

pub has_choice-of_group : (mask : ℕ) (numbers : List ℕ) (group c : ℕ) → c < length numbers → has_choice (only_group mask numbers group) c ≡ (has_choice mask c && nat_eq (group_of numbers c) group)
has_choice-of_group mask numbers group c within =
    let place : 0 + c ≡ c = omega arith in
    subst (λ d. has_choice (only_group mask numbers group) d ≡ (has_choice mask d && nat_eq (group_of numbers c) group)) place (others_at mask group 0 c numbers within)

pub of_group_within : (mask : ℕ) (numbers : List ℕ) (group c : ℕ) → has_choice (only_group mask numbers group) c ≡ true → has_choice mask c ≡ true
of_group_within mask numbers group c has = others_within mask group 0 numbers c has

-- a choice that is taken out of a mask that has it is gone
taken_out : (mask part c : ℕ) → (has_choice part c ≡ true → has_choice mask c ≡ true) → has_choice (bit_xor mask part) c ≡ (has_choice mask c && not (has_choice part c))
taken_out mask part c within = ap (λ b. nat_eq b 1) (bit_at_xor mask part c) ∙ by (bit_at mask c) (bit_at part c) (bit_at-lt mask c) (bit_at-lt part c) within
  where
    by : (m p : ℕ) → m < 2 → p < 2 → (nat_eq p 1 ≡ true → nat_eq m 1 ≡ true) → nat_eq ((m + p) % 2) 1 ≡ (nat_eq m 1 && not (nat_eq p 1))
    by zero zero less few h = refl
    by (suc zero) zero less few h = refl
    by zero (suc zero) less few h = absurd (cc (h refl))
    by (suc zero) (suc zero) less few h = refl
    by (suc (suc m)) p less few h = absurd (omega arith)
    by zero (suc (suc p)) less few h = absurd (omega arith)
    by (suc zero) (suc (suc p)) less few h = absurd (omega arith)

pub has_choice-of_others : (mask : ℕ) (numbers : List ℕ) (group c : ℕ) → has_choice (without_group mask numbers group) c ≡ (has_choice mask c && not (has_choice (only_group mask numbers group) c))
has_choice-of_others mask numbers group c = taken_out mask (only_group mask numbers group) c (of_group_within mask numbers group c)
