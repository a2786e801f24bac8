-- The moves of a part, and those of a mode among them, which stand together.
use Rattle.std.specs.Prelude.{ℕ, nat_lt, nat_eq, List, [], count_by, Option, slice_get}
use Rattle.std.specs.Option.{option_map_or, option_and_then}
use Rattle.lv_model.specs.declared.plant.Plant.{Plant}
use Rattle.lv_model.specs.declared.plant.ComponentType.{ComponentType}
use Rattle.lv_model.specs.declared.plant.Part.{Part}
use Rattle.lv_model.specs.declared.plant.Move.{Move}

-- the n-th move of the part's type, if there is one
abbrev pub move_at : List ComponentType → Part → ℕ → Option Move
move_at types p n = option_and_then (λ (t : ComponentType). slice_get t.moves n) (slice_get types p.kind)

-- the number of the first move from the mode: how many moves are from modes before it
abbrev pub first_move : List Move → ℕ → ℕ
first_move moves mode = count_by (λ (m : Move). nat_lt m.source.0 mode) moves

-- how many moves are from the mode
abbrev pub move_count : List Move → ℕ → ℕ
move_count moves mode = count_by (λ (m : Move). nat_eq m.source.0 mode) moves

-- the moves that the part of this number has to choose from
abbrev pub moves_of : Plant → ℕ → List Move
moves_of plant part = option_map_or (λ (p : Part). option_map_or (λ (t : ComponentType). t.moves) (slice_get plant.types p.kind) []) (slice_get plant.parts part) []
