-- The search for some list finds one exactly where there is one.
use Rattle.std.proofs.Common.{◌≡◌, ℕ, zero, suc, Bool, true, false, ◌||◌, nat_lt, List, [], ◌∷◌, map, refl, sym, ◌∙◌, ap, arith}
use Rattle.std.proofs.lemmas.Bool.{and_parts, and_from}
use Rattle.lv_meaning.specs.Search.{some_below, some_list}
use Rattle.lv_meaning.specs.PossibleLaws.{are_below}

-- a number below the bound that passes
pub record Found (n : ℕ) (p : ℕ → Bool) : Type 0 where
  pub number : ℕ
  pub below : nat_lt number n ≡ true
  pub passes : p number ≡ true

pub below_found : (n : ℕ) (p : ℕ → Bool) → some_below n p ≡ true → Found n p
below_found zero p h = absurd (grind (arith, h))
below_found (suc n) p h = by (p n) refl (λ e. below_found n p (sym (ap (λ (b : Bool). b || some_below n p) e) ∙ h))
  where
    by : (b : Bool) → p n ≡ b → (p n ≡ false → Found n p) → Found (suc n) p
    by true e rest = record { number = n; below = grind arith; passes = e }
    by false e rest = let f : Found n p = rest e in record { number = f.number; below = grind (arith, f.below); passes = f.passes }

or_right : (a b : Bool) → b ≡ true → (a || b) ≡ true
or_right true b e = refl
or_right false b e = e

pub found_below : (n : ℕ) (p : ℕ → Bool) (v : ℕ) → nat_lt v n ≡ true → p v ≡ true → some_below n p ≡ true
found_below zero p v lt h = absurd (grind (arith, lt))
found_below (suc n) p v lt h = by (nat_lt v n) refl (λ e. found_below n p v e h)
  where
    by : (b : Bool) → nat_lt v n ≡ b → (nat_lt v n ≡ true → some_below n p ≡ true) → some_below (suc n) p ≡ true
    by true e rest = or_right (p n) (some_below n p) (rest e)
    by false e rest = let same : v ≡ n = grind (arith, e, lt) in ap (λ k. p k || some_below n p) (sym same) ∙ ap (λ (b : Bool). b || some_below n p) h

-- a list in range that passes
pub record ListFound {X : Type 0} (item : ℕ → X) (ns : List ℕ) (p : List X → Bool) : Type 0 where
  pub numbers : List ℕ
  pub below : are_below ns numbers ≡ true
  pub passes : p (map item numbers) ≡ true

module _ {X : Type 0} (item : ℕ → X) where
  pub list_found : (ns : List ℕ) (p : List X → Bool) → some_list item ns p ≡ true → ListFound item ns p
  list_found [] p h = record { numbers = []; below = refl; passes = h }
  list_found (n ∷ ns) p h =
      let first : Found n (λ v. some_list item ns (λ xs. p (item v ∷ xs))) = below_found n (λ v. some_list item ns (λ xs. p (item v ∷ xs))) h in
      let rest : ListFound item ns (λ xs. p (item first.number ∷ xs)) = list_found ns (λ xs. p (item first.number ∷ xs)) first.passes in
      record { numbers = first.number ∷ rest.numbers; below = and_from (nat_lt first.number n) (are_below ns rest.numbers) first.below rest.below; passes = rest.passes }

  pub found_list : (ns : List ℕ) (p : List X → Bool) (vs : List ℕ) → are_below ns vs ≡ true → p (map item vs) ≡ true → some_list item ns p ≡ true
  found_list [] p [] below h = h
  found_list [] p (v ∷ vs) below h = absurd (cc below)
  found_list (n ∷ ns) p [] below h = absurd (cc below)
  found_list (n ∷ ns) p (v ∷ vs) below h =
      found_below n (λ x. some_list item ns (λ xs. p (item x ∷ xs))) v ((and_parts (nat_lt v n) (are_below ns vs) below).0)
      (found_list ns (λ xs. p (item v ∷ xs)) vs ((and_parts (nat_lt v n) (are_below ns vs) below).1) h)
