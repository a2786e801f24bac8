-- The states that candidates lead to, and the answer in which each of them stands once.
use Rattle.std.specs.Prelude.{ℕ, Bool, true, false, nat_eq, List, [], ◌∷◌, map, take, filter}
use Rattle.std.specs.Option.{option_map_or}
use Rattle.std.specs.Cmp.Lexicographic.{pointwise}
use Rattle.lv_base.specs.declared.ids.ValId.{ValId}
use Rattle.lv_base.specs.declared.rank.Rank.{Rank}
use Rattle.lv_model.specs.declared.plant.Plant.{Plant}
use Rattle.lv_model.specs.declared.plant.ComponentType.{ComponentType}
use Rattle.lv_model.specs.declared.plant.Move.{Move}
use Rattle.lv_model.specs.declared.plant.Part.{Part}
use Rattle.lv_model.specs.declared.state.TrackedState.{TrackedState}
use Rattle.lv_model.specs.Meaning.{target_of}
use Rattle.lv_boxes.specs.Walk.{none_alike, first_of_each}
use Rattle.lv_meaning.specs.declared.facts.Facts.{Facts}
use Rattle.lv_meaning.specs.Candidates.{type_moves, candidates, is_possible_rank, first_possible}

-- the target mode of the part's move, mode 0 where its type has no such move
abbrev pub target_mode : List ComponentType → Part → ℕ → ValId
target_mode types p n = record { 0 = option_map_or (λ (mode : ℕ). mode) (target_of types p n) 0 }

-- the target mode of each part's move
abbrev pub target_modes : List ComponentType → List Part → List ℕ → List ValId
target_modes types [] ns = []
target_modes types (p ∷ ps) [] = []
target_modes types (p ∷ ps) (n ∷ ns) = target_mode types p n ∷ target_modes types ps ns

-- the mode of each part in the state that the candidate leads to
abbrev pub target_of_rank : Plant → Rank → List ValId
target_of_rank plant r = target_modes plant.types plant.parts r.choices

-- both candidates lead to one state
abbrev pub have_one_target : Plant → Rank → Rank → Bool
have_one_target plant r q = pointwise (λ (a b : ValId). nat_eq a.0 b.0) (target_of_rank plant r) (target_of_rank plant q)

-- which candidates a diagnosis takes for one: with the flag those that lead to one state, without it none
abbrev pub are_alike : Bool → Plant → Rank → Rank → Bool
are_alike false plant = none_alike
are_alike true plant = have_one_target plant

-- of each part the target modes of its moves
abbrev pub move_targets : List ComponentType → Part → List ℕ
move_targets types p = map (λ (m : Move). m.target.0) (type_moves types p)

-- the same of all parts: the groups of their moves
abbrev pub targets_of_moves : Plant → List (List ℕ)
targets_of_moves plant = map (move_targets plant.types) plant.parts

-- the first k of the possible candidates to whose state no possible candidate of lower rank leads, or all if fewer are
abbrev pub first_distinct : ℕ → Plant → Facts → List TrackedState → List Rank
first_distinct k plant facts tracked = take k (first_of_each (have_one_target plant) (filter (is_possible_rank plant facts) (candidates plant tracked)))

-- the answer of a diagnosis, with the flag or without it
abbrev pub answer : Bool → ℕ → Plant → Facts → List TrackedState → List Rank
answer false k plant facts tracked = first_possible k plant facts tracked
answer true k plant facts tracked = first_distinct k plant facts tracked
