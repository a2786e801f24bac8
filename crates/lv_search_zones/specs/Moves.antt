-- The candidates of tracked states as a search has them: what the moves of each part cost, and of each state the moves that go from
-- its modes.
use Rattle.std.specs.Prelude.{ℕ, ◌+◌, ◌^◌, Bool, nat_eq, bit_or, List, [], ◌∷◌, map, if◌then◌else◌}
use Rattle.lv_base.specs.declared.ids.Cost.{Cost}
use Rattle.lv_base.specs.declared.ids.ValId.{ValId}
use Rattle.lv_base.specs.declared.search.Candidate.{Candidate}
use Rattle.lv_boxes.specs.Members.{ZoneValue}
use Rattle.lv_model.specs.declared.plant.Plant.{Plant}
use Rattle.lv_model.specs.declared.plant.ComponentType.{ComponentType}
use Rattle.lv_model.specs.declared.plant.Part.{Part}
use Rattle.lv_model.specs.declared.plant.Move.{Move}
use Rattle.lv_model.specs.declared.state.TrackedState.{TrackedState}
use Rattle.lv_model.specs.Lists.{move_counts}
use Rattle.lv_meaning.specs.Candidates.{type_moves}
use Rattle.lv_meaning.specs.PossibleLaws.{are_below}

abbrev pub costs_of : List Move → List Cost
costs_of moves = map (λ (m : Move). m.cost) moves

abbrev pub part_costs : List ComponentType → Part → List Cost
part_costs types p = costs_of (type_moves types p)

-- the numbers of the moves' target modes
abbrev pub targets_of : List Move → List ℕ
targets_of moves = map (λ (m : Move). m.target.0) moves

-- of each part what its moves cost
abbrev pub move_slots : Plant → List (List Cost)
move_slots plant = map (part_costs plant.types) plant.parts

-- of these moves, the first of which is the n-th, those from the mode, each as a bit
abbrev pub mask_from : ℕ → ℕ → List Move → ℕ
mask_from n mode [] = 0
mask_from n mode (m ∷ ms) = bit_or (if nat_eq m.source.0 mode then 2 ^ n else 0) (mask_from (n + 1) mode ms)

abbrev pub mask_of : ℕ → List Move → ℕ
mask_of mode moves = mask_from 0 mode moves

-- of each part the moves that go from its mode
abbrev pub masks_of : List ComponentType → List Part → List ValId → List ℕ
masks_of types [] modes = []
masks_of types (p ∷ ps) [] = []
masks_of types (p ∷ ps) (v ∷ vs) = mask_of v.0 (type_moves types p) ∷ masks_of types ps vs

-- the candidates of the tracked state that has this place
abbrev pub state_zone : Plant → ℕ → TrackedState → ZoneValue
state_zone plant place s = record { source = place; base = s.cost; masks = masks_of plant.types plant.parts s.state.modes }

-- the candidates of the tracked states, the first of which has this place
abbrev pub zones_from : Plant → ℕ → List TrackedState → List ZoneValue
zones_from plant place [] = []
zones_from plant place (s ∷ ss) = state_zone plant place s ∷ zones_from plant (place + 1) ss

-- one move for each part, which its type has
abbrev pub is_full_choice : Plant → Candidate → Bool
is_full_choice plant c = are_below (move_counts plant) c.choices
