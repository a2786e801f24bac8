-- Values and moves as numbers, each below its bound.
use Rattle.std.proofs.Common.{◌≡◌, ℕ, suc, zero, ◌<◌, true, nat_lt, List, [], ◌∷◌, length, map, get_or, refl, ap₂, arith}
use Rattle.std.proofs.lemmas.Bool.{and_parts, and_from, lt-ltb, ltb-true}
use Rattle.lv_base.specs.declared.ids.ValId.{ValId}
use Rattle.lv_base.specs.declared.ids.MoveId.{MoveId}
use Rattle.lv_meaning.specs.PossibleLaws.{are_below}

-- items and their numbers, each below its bound
module _ {X : Type 0} (item : ℕ → X) (number : X → ℕ) (back : (x : X) → item (number x) ≡ x) (forth : (n : ℕ) → number (item n) ≡ n) (d : X) where
  pub items_back : (xs : List X) → map item (map number xs) ≡ xs
  items_back [] = refl
  items_back (x ∷ xs) = ap₂ (λ (y : X) (ys : List X). y ∷ ys) (back x) (items_back xs)

  pub all_below : (ns : List ℕ) (xs : List X) → length xs ≡ length ns → ((k : ℕ) → k < length ns → number (get_or xs k d) < get_or ns k 0) → are_below ns (map number xs) ≡ true
  all_below [] [] len below = refl
  all_below [] (x ∷ xs) len below = absurd (omega (arith, len))
  all_below (n ∷ ns) [] len below = absurd (omega (arith, len))
  all_below (n ∷ ns) (x ∷ xs) len below =
      and_from (nat_lt (number x) n) (are_below ns (map number xs)) (lt-ltb (number x) n (below 0 (omega arith)))
      (all_below ns xs (omega (arith, len)) (λ k within. below (suc k) (omega (arith, within))))

  pub length_below : (ns vs : List ℕ) → are_below ns vs ≡ true → length (map item vs) ≡ length ns
  length_below [] [] h = refl
  length_below [] (v ∷ vs) h = absurd (cc h)
  length_below (n ∷ ns) [] h = absurd (cc h)
  length_below (n ∷ ns) (v ∷ vs) h = let rest = length_below ns vs (and_parts (nat_lt v n) (are_below ns vs) h).1 in omega (arith, rest)

  pub below_at : (ns vs : List ℕ) → are_below ns vs ≡ true → (k : ℕ) → k < length ns → number (get_or (map item vs) k d) < get_or ns k 0
  below_at [] vs h k within = absurd (omega (arith, within))
  below_at (n ∷ ns) [] h k within = absurd (cc h)
  below_at (n ∷ ns) (v ∷ vs) h zero within =
      let less : v < n = ltb-true v n (and_parts (nat_lt v n) (are_below ns vs) h).0 in
      let same : number (item v) ≡ v = forth v in
      omega (arith, less, same)
  below_at (n ∷ ns) (v ∷ vs) h (suc k) within = below_at ns vs (and_parts (nat_lt v n) (are_below ns vs) h).1 k (omega (arith, within))

abbrev pub value_number : ValId → ℕ
value_number v = v.0

abbrev pub number_of_move : MoveId → ℕ
number_of_move m = m.0

abbrev pub no_value : ValId
no_value = record { 0 = 0 }

abbrev pub no_move : MoveId
no_move = record { 0 = 0 }
