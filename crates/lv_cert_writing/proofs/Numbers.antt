-- Places and values by their numbers, and back.
use Rattle.std.proofs.Common.{◌≡◌, ℕ, zero, suc, ◌+◌, ◌-◌, ◌^◌, ◌<◌, ◌≤◌, true, nat_lt, nat_le, List, [], ◌∷◌, length, map, slice_index_or, refl, ap₂, arith, All}
use Rattle.std.specs.List.{list_all}
use Rattle.std.proofs.lemmas.Bool.{and_parts, and_from, lt-ltb, ltb-true, le-leb, leb-true}
use Rattle.std.proofs.lemmas.List.Elements.{All-tail, All-cons}
use Rattle.lv_base.specs.declared.ids.ValId.{ValId}
use Rattle.lv_model.specs.lv_base.declared.range.Range.{Range}
use Rattle.lv_model.specs.lv_base.Fits.{has_value}
use Rattle.lv_model.specs.Lists.{IsFew}
use Rattle.lv_cert.specs.Form.{is_within_limit}
use Rattle.lv_cert_meaning.specs.Counting.{is_one_of, are_of, places_of, values_of}
use Rattle.lv_cert_writing.specs.Lines.{numbers_of, value_numbers}

pub back_again : (n : ℕ) → n + 1 - 1 ≡ n
back_again n = omega arith

-- numbers are those of their places
pub places_back : (ns : List ℕ) → places_of (numbers_of ns) ≡ ns
places_back [] = refl
places_back (n ∷ ns) = ap₂ (λ (m : ℕ) (ms : List ℕ). m ∷ ms) (back_again n) (places_back ns)

pub values_back : (vs : List ValId) → values_of (value_numbers vs) ≡ vs
values_back [] = refl
values_back (v ∷ vs) = ap₂ (λ (n : ℕ) (us : List ValId). record { 0 = n } ∷ us) (back_again v.0) (values_back vs)

-- a number is one behind its place
pub one_of_place : (count n : ℕ) → n < count → is_one_of count (n + 1) ≡ true
one_of_place count n below = and_from (nat_lt 0 (n + 1)) (nat_le (n + 1) count) (lt-ltb 0 (n + 1) (omega arith)) (le-leb (n + 1) count (omega (arith, below)))

-- what is one of some things is below their number
pub have_value : (ranges : List Range) (x v : ℕ) → has_value ranges x v ≡ true → v < slice_index_or (map (λ (r : Range). r.size) ranges) x 0
have_value [] x v h = absurd (cc h)
have_value (r ∷ rs) zero v h = ltb-true v r.size h
have_value (r ∷ rs) (suc x) v h = have_value rs x v h

-- numbers within some bound are within the limit of numbers
pub within : (n bound : ℕ) → n ≤ bound → bound ≤ 10 ^ 30 → is_within_limit n ≡ true
within n bound few most = le-leb n (10 ^ 30) (omega (arith, few, most))

pub few_at : (xs : List ℕ) (n : ℕ) → All IsFew xs → slice_index_or xs n 0 ≤ 64
few_at [] n h = omega arith
few_at (x ∷ xs) zero h = (h 0 0 (omega arith)).few
few_at (x ∷ xs) (suc n) h = few_at xs n (All-tail IsFew x xs h)

-- numbers of few things each are within the limit
pub formed_of : (counts ns : List ℕ) → All IsFew counts → are_of counts ns ≡ true → list_all is_within_limit ns ≡ true
formed_of [] [] few h = refl
formed_of [] (n ∷ ns) few h = absurd (cc h)
formed_of (count ∷ counts) [] few h = absurd (cc h)
formed_of (count ∷ counts) (n ∷ ns) few h =
    let two = and_parts (is_one_of count n) (are_of counts ns) h in
    let most : n ≤ count = leb-true n count (and_parts (nat_lt 0 n) (nat_le n count) two.0).1 in
    let small = (few 0 0 (omega arith)).few in
    and_from (is_within_limit n) (list_all is_within_limit ns) (within n 64 (omega (arith, most, small)) (omega arith)) (formed_of counts ns (All-tail IsFew count counts few) two.1)

-- how many things some of these have
pub few_found : {X : Type 0} (xs : List ℕ) (place : X → ℕ) (of : List X) → All IsFew xs → All IsFew (map (λ (x : X). slice_index_or xs (place x) 0) of)
few_found xs place [] few = λ k d below. absurd (omega (arith, below))
few_found xs place (x ∷ of) few =
    All-cons IsFew (slice_index_or xs (place x) 0) (map (λ y. slice_index_or xs (place y) 0) of) (record { few = few_at xs (place x) few }) (few_found xs place of few)

-- what has a value is there
pub is_there : (sizes : List ℕ) (x v : ℕ) → v < slice_index_or sizes x 0 → x < length sizes
is_there [] x v h = absurd (omega (arith, h))
is_there (n ∷ ns) zero v h = omega arith
is_there (n ∷ ns) (suc x) v h = let rest = is_there ns x v h in omega (arith, rest)
