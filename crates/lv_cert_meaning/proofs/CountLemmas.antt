-- How many things of each kind a plant has at most.
use Rattle.std.proofs.Common.{◌≡◌, ◌≤◌, ℕ, zero, suc, List, [], ◌∷◌, length, map, slice_index_or, ap, ◌∙◌, arith, All}
use Rattle.std.proofs.lemmas.List.{length-map}
use Rattle.std.proofs.lemmas.List.Elements.{All-cons, All-tail}
use Rattle.lv_model.specs.Lists.{IsFew}

-- a look-up among few gives few

few_at : (xs : List ℕ) (n : ℕ) → All IsFew xs → IsFew (slice_index_or xs n 0)
few_at [] n all = record { few = omega arith }
few_at (x ∷ xs) zero all = all 0 x (omega arith)
few_at (x ∷ xs) (suc n) all = few_at xs n (All-tail IsFew x xs all)

pub few_found : {Y : Type 0} (xs : List ℕ) (place : Y → ℕ) (ys : List Y) → All IsFew xs → All IsFew (map (λ y. slice_index_or xs (place y) 0) ys)
few_found xs place [] all = λ k d below. absurd (omega arith)
few_found xs place (y ∷ ys) all =
    All-cons IsFew (slice_index_or xs (place y) 0) (map (λ z. slice_index_or xs (place z) 0) ys) (few_at xs (place y) all) (few_found xs place ys all)

pub as_many : {Y : Type 0} (count : Y → ℕ) (ys : List Y) (xs : List ℕ) (most : ℕ) → xs ≡ map count ys → length ys ≤ most → length xs ≤ most
as_many count ys xs most is few = let same : length xs ≡ length ys = ap length is ∙ length-map ys count in omega (arith, same, few)
