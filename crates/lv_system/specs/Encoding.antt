-- Truth values as a list, one for each boolean, and the list that encodes assignments before and after a step and a full choice:
-- of the booleans of each variable, and of each part's moves, exactly one is true.
use Rattle.std.specs.Prelude.{ℕ, Bool, false, nat_eq, List, [], ◌∷◌, ◌++◌, map, slice_index_or}
use Rattle.std.specs.List.{range_with_len}
use Rattle.lv_base.specs.declared.ids.ValId.{ValId}
use Rattle.lv_base.specs.declared.ids.MoveId.{MoveId}
use Rattle.lv_model.specs.declared.plant.Plant.{Plant}
use Rattle.lv_model.specs.Lists.{sizes, move_counts}

-- what the list says of the n-th boolean; what it doesn't reach is false
abbrev pub truth_in : List Bool → ℕ → Bool
truth_in values n = slice_index_or values n false

abbrev pub value_numbered : ℕ → ValId
value_numbered n = record { 0 = n }

abbrev pub move_numbered : ℕ → MoveId
move_numbered n = record { 0 = n }

-- of n booleans the one of this number
abbrev pub one_of : ℕ → ℕ → List Bool
one_of n number = map (nat_eq number) (range_with_len 0 n)

-- of things that have so many booleans each the ones of their numbers, one behind the other
abbrev pub rows : {X : Type 0} → (X → ℕ) → List ℕ → List X → List Bool
rows number [] xs = []
rows number (n ∷ ns) [] = []
rows number (n ∷ ns) (x ∷ xs) = one_of n (number x) ++ rows number ns xs

abbrev pub value_rows : List ℕ → List ValId → List Bool
value_rows = rows (λ (v : ValId). v.0)

abbrev pub move_rows : List ℕ → List MoveId → List Bool
move_rows = rows (λ (m : MoveId). m.0)

-- the values before, those after, the moves
abbrev pub encoded : Plant → List ValId → List ValId → List MoveId → List Bool
encoded plant a b ms = value_rows (sizes plant) a ++ (value_rows (sizes plant) b ++ move_rows (move_counts plant) ms)
