-- Where a list is cut at the first element that passes a test.
use Rattle.std.proofs.Common.{◌≡◌, ℕ, suc, ◌+◌, ◌-◌, ◌<◌, Bool, true, false, not, cond, nat_lt, List, [], ◌∷◌, ◌++◌, length, take, drop, Some, None, refl, sym, ap, subst, ◌∙◌, arith}
use Rattle.std.proofs.lemmas.Bool.Decides.{nat_tests}
use Rattle.std.proofs.lemmas.List.Splits.{slice_split_first}
use Rattle.std.proofs.lemmas.List.{take_all, length-drop}
use Rattle.std.specs.List.{position_or_len, position, slice_split, onto_first}

module _ {X : Type 0} (p : X → Bool) where
  -- a place that was found
  pub found_place : (xs : List X) (n : ℕ) → position p xs ≡ Some n → (n ≡ position_or_len p xs) × (n < length xs)
  found_place xs n h = by (nat_lt (position_or_len p xs) (length xs)) refl h
    where
      by : (c : Bool) → nat_lt (position_or_len p xs) (length xs) ≡ c → cond c (Some (position_or_len p xs)) None ≡ Some n → (n ≡ position_or_len p xs) × (n < length xs)
      by true is e =
          let same : n ≡ position_or_len p xs = cc in
          let test : nat_lt n (length xs) ≡ true = subst (λ m. nat_lt m (length xs) ≡ true) (sym same) is in
          (same, grind (arith, nat_tests))
      by false is e = absurd (cc)

  -- a list is one part where no element passes
  missing : (xs : List X) → nat_lt (position_or_len p xs) (length xs) ≡ false → slice_split p xs ≡ xs ∷ []
  missing [] h = refl
  missing (x ∷ xs) h = by (missing xs) (p x) h
    where
      m : ℕ
      m = position_or_len p xs

      later : nat_lt (1 + m) (suc (length xs)) ≡ false → nat_lt m (length xs) ≡ false
      later e = grind (arith, nat_tests)

      by : (nat_lt m (length xs) ≡ false → slice_split p xs ≡ xs ∷ []) → (c : Bool) → nat_lt (cond (not c) (1 + m) 0) (suc (length xs)) ≡ false
          → cond c ([] ∷ slice_split p xs) (onto_first x (slice_split p xs)) ≡ (x ∷ xs) ∷ []
      by ih true e = absurd (grind (arith, nat_tests))
      by ih false e = ap (onto_first x) (ih (later e))

  pub split_none : (xs : List X) → position p xs ≡ None → slice_split p xs ≡ xs ∷ []
  split_none xs h = by (nat_lt (position_or_len p xs) (length xs)) refl h
    where
      by : (c : Bool) → nat_lt (position_or_len p xs) (length xs) ≡ c → cond c (Some (position_or_len p xs)) None ≡ None → slice_split p xs ≡ xs ∷ []
      by true is e = absurd (cc)
      by false is e = missing xs is

  -- what is cut at a place that was found
  pub split_found : (xs : List X) (n : ℕ) (d : X) → position p xs ≡ Some n → slice_split p xs ≡ take n xs ∷ slice_split p (drop (n + 1) xs)
  split_found xs n d h =
      let place = found_place xs n h in
      let inside : position_or_len p xs < length xs = omega (arith, place.0, place.1) in
      subst (λ k. slice_split p xs ≡ take k xs ∷ slice_split p (drop (k + 1) xs)) (sym place.0) (slice_split_first p xs d inside)

-- what stands behind a place, cut as code cuts it
pub behind : {X : Type 0} (xs : List X) (n : ℕ) → take (length xs - n) (drop n xs) ≡ drop n xs
behind xs n = take_all (length xs - n) (drop n xs) (omega (arith, length-drop n xs))

-- a list cut at a place that was found, as code cuts it
pub split_cut : {X : Type 0} (p : X → Bool) (xs : List X) (n : ℕ) (d : X) → position p xs ≡ Some n
    → slice_split p xs ≡ take n xs ∷ slice_split p (take (length xs - (n + 1)) (drop (n + 1) xs))
split_cut p xs n d h = rw (behind xs (n + 1)) (split_found p xs n d h)

-- a list cut at an element that is the only one to pass
pub cut_found : {X : Type 0} (p : X → Bool) (z : X) → ((x : X) → p x ≡ true → x ≡ z) → (xs : List X) (n : ℕ) → position p xs ≡ Some n → xs ≡ take n xs ++ z ∷ drop (n + 1) xs
cut_found {X = X} p z one xs n h =
    let place = found_place p xs n h in
    let inside : position_or_len p xs < length xs = omega (arith, place.0, place.1) in
    subst (λ k. xs ≡ take k xs ++ z ∷ drop (k + 1) xs) (sym place.0) (cut xs inside)
  where
    cut : (ys : List X) → position_or_len p ys < length ys → ys ≡ take (position_or_len p ys) ys ++ z ∷ drop (position_or_len p ys + 1) ys
    cut [] i = absurd (omega arith)
    cut (y ∷ ys) i = by (cut ys) (p y) refl i
      where
        m : ℕ
        m = position_or_len p ys

        by : (m < length ys → ys ≡ take m ys ++ z ∷ drop (m + 1) ys) → (c : Bool) → p y ≡ c → cond (not c) (1 + m) 0 < suc (length ys)
            → y ∷ ys ≡ take (cond (not c) (1 + m) 0) (y ∷ ys) ++ z ∷ drop (cond (not c) (1 + m) 0 + 1) (y ∷ ys)
        by later true is j = ap (λ x. x ∷ ys) (one y is)
        by later false is j =
            let first : suc m ≡ 1 + m = omega arith in
            let second : suc (m + 1) ≡ (1 + m) + 1 = omega arith in
            let less : m < length ys = omega arith in
            ap (λ t. y ∷ t) (later less) ∙ ap (λ k. take k (y ∷ ys) ++ z ∷ drop (m + 1) ys) first
            ∙ ap (λ k. take (1 + m) (y ∷ ys) ++ z ∷ drop k (y ∷ ys)) second
