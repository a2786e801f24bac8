-- What holds of numbers where each is of one of so many things.
use Rattle.std.proofs.Common.{◌≡◌, ◌-◌, ◌≤◌, ℕ, suc, Bool, true, false, ◌&&◌, nat_lt, nat_le, List, [], ◌∷◌, ◌++◌, length, drop, slice_get, Some, None, if◌then◌else◌, refl, sym, ap, subst, ◌∙◌, arith}
use Rattle.std.proofs.Math.Bool.{and-false}
use Rattle.std.proofs.lemmas.Bool.{and_from, and_parts}
use Rattle.std.proofs.lemmas.List.{drop_all, append-nil}
use Rattle.std.proofs.lemmas.Option.{slice_get_past}
use Rattle.lv_cert_meaning.specs.Counting.{is_one_of, are_of, places_of, values_at, at_number}
use Rattle.lv_cert_meaning.specs.Fitting.{are_places, are_values}

-- where numbers aren't as many as counts, there isn't one for each
pub not_as_many : (counts ns : List ℕ) → (length counts ≡ length ns → ⊥) → are_of counts ns ≡ false
not_as_many [] [] h = absurd (h refl)
not_as_many [] (n ∷ ns) h = refl
not_as_many (count ∷ counts) [] h = refl
not_as_many (count ∷ counts) (n ∷ ns) h = ap (λ b. is_one_of count n && b) (not_as_many counts ns (λ e. h (ap suc e))) ∙ and-false (is_one_of count n)

is_below : (count n : ℕ) → is_one_of count n ≡ true → nat_lt (n - 1) count ≡ true
is_below count n h =
    let two = and_parts (nat_lt 0 n) (nat_le n count) h in
    let some : nat_lt 0 n ≡ true = two.0 in
    let most : nat_le n count ≡ true = two.1 in
    grind (arith, some, most)

-- the places of numbers are below their counts
places_within : (counts ns : List ℕ) → are_of counts ns ≡ true → are_places counts (places_of ns) ≡ true
places_within [] [] h = refl
places_within [] (n ∷ ns) h = absurd (cc)
places_within (count ∷ counts) [] h = absurd (cc)
places_within (count ∷ counts) (n ∷ ns) h =
    let two = and_parts (is_one_of count n) (are_of counts ns) h in
    and_from (nat_lt (n - 1) count) (are_places counts (places_of ns)) (is_below count n two.0) (places_within counts ns two.1)

-- places below their counts are so as values too
pub values_below : (counts places : List ℕ) → are_places counts places ≡ true → are_values counts (values_at places) ≡ true
values_below [] [] h = refl
values_below [] (p ∷ ps) h = absurd (cc)
values_below (count ∷ counts) [] h = absurd (cc)
values_below (count ∷ counts) (p ∷ ps) h =
    let two = and_parts (nat_lt p count) (are_places counts ps) h in
    and_from (nat_lt p count) (are_values counts (values_at ps)) two.0 (values_below counts ps two.1)

-- where nothing is left, each is of its count
all_are : (counts ns : List ℕ) (k : ℕ) → length counts ≡ length ns → length ns ≤ k → are_of (drop k counts) (drop k ns) ≡ are_of counts ns → are_of counts ns ≡ true
all_are counts ns k same past left = sym left ∙ rw (drop_all k counts (omega (arith, same, past)), drop_all k ns past) refl

-- where nothing is left, the places are those of all, each below its count
pub places_are : (counts ns out : List ℕ) (k : ℕ) → length counts ≡ length ns → length ns ≤ k → out ++ places_of (drop k ns) ≡ places_of ns → are_of (drop k counts) (drop k ns) ≡ are_of counts ns
    → are_places counts out ≡ true
places_are counts ns out k same past places left =
    let none : places_of (drop k ns) ≡ [] = ap places_of (drop_all k ns past) in
    let all : out ≡ places_of ns = sym (append-nil out) ∙ ap (λ rest. out ++ rest) (sym none) ∙ places in
    subst (λ ps. are_places counts ps ≡ true) (sym all) (places_within counts ns (all_are counts ns k same past left))

-- a number that is zero or too high has no thing in the list; that of any other stands at its place
pub none_at : {X : Type 0} (xs : List X) (n : ℕ) → None ≡ (if is_one_of (length xs) n then Some (n - 1) else None) → at_number xs n ≡ None
none_at xs n h = by (is_one_of (length xs) n) refl h
  where
    by : (b : Bool) → is_one_of (length xs) n ≡ b → None ≡ (if b then Some (n - 1) else None) → at_number xs n ≡ None
    by true e h = absurd (cc)
    by false e h = past (nat_lt 0 n) refl
      where
        past : (b : Bool) → nat_lt 0 n ≡ b → (if b then slice_get xs (n - 1) else None) ≡ None
        past false f = refl
        past true f = slice_get_past xs (n - 1) (grind (arith, e, f))

pub some_at : {X : Type 0} (xs : List X) (n place : ℕ) → Some place ≡ (if is_one_of (length xs) n then Some (n - 1) else None) → (place ≡ n - 1) × (at_number xs n ≡ slice_get xs (n - 1))
some_at xs n place h = by (is_one_of (length xs) n) refl h
  where
    by : (b : Bool) → is_one_of (length xs) n ≡ b → Some place ≡ (if b then Some (n - 1) else None) → (place ≡ n - 1) × (at_number xs n ≡ slice_get xs (n - 1))
    by false e h = absurd (cc)
    by true e h =
        let positive = (and_parts (nat_lt 0 n) (nat_le n (length xs)) e).0 in
        (cc h, ap (λ b. if b then slice_get xs (n - 1) else None) positive)
