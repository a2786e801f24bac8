-- A box cut in two by its slots: the part of some slots, numbered anew, and the others.
use Rattle.std.specs.Prelude.{ℕ, zero, suc, ◌+◌, Bool, true, false, not, List, [], ◌∷◌, if◌then◌else◌}
use Rattle.std.specs.List.{list_all}
use Rattle.lv_base.specs.declared.search.Pair.{Pair}

-- the items at the slots that are marked
abbrev pub only : {X : Type 0} → List Bool → List X → List X
only (true ∷ marks) (x ∷ xs) = x ∷ only marks xs
only (false ∷ marks) (x ∷ xs) = only marks xs
only _ _ = []

-- the outer choices, with the inner ones at the slots that are marked
abbrev pub put_in : List Bool → List ℕ → List ℕ → List ℕ
put_in (true ∷ marks) (y ∷ inner) (x ∷ outer) = y ∷ put_in marks inner outer
put_in (false ∷ marks) inner (x ∷ outer) = x ∷ put_in marks inner outer
put_in _ _ outer = outer

-- the slot is marked
abbrev pub is_marked : List Bool → ℕ → Bool
is_marked [] slot = false
is_marked (mark ∷ marks) zero = mark
is_marked (mark ∷ marks) (suc slot) = is_marked marks slot

-- how many slots before this one are marked
abbrev pub place_of : List Bool → ℕ → ℕ
place_of [] slot = 0
place_of (mark ∷ marks) zero = 0
place_of (mark ∷ marks) (suc slot) = (if mark then 1 else 0) + place_of marks slot

-- the pair as one of the part
abbrev pub pair_in : List Bool → Pair → Pair
pair_in marks p = record p { slot = place_of marks p.slot }

-- all pairs are at slots that are marked, or none is
abbrev pub is_inside : List Bool → List Pair → Bool
is_inside marks pairs = list_all (λ p. is_marked marks p.slot) pairs

abbrev pub is_outside : List Bool → List Pair → Bool
is_outside marks pairs = list_all (λ p. not (is_marked marks p.slot)) pairs
