-- A window's trajectories as a search has them: slots for the parts of each step in turn, of each tracked state a zone in which the first
-- step goes from its modes and the later ones from any, and the conflicts of neighbouring moves of a part that don't join.
use Rattle.std.specs.Prelude.{ℕ, ◌+◌, ◌^◌, ◌-◌, zero, suc, Bool, nat_eq, List, [], ◌∷◌, ◌++◌, map, length, if◌then◌else◌}
use Rattle.lv_base.specs.declared.ids.Cost.{Cost}
use Rattle.lv_base.specs.declared.search.Pair.{Pair}
use Rattle.lv_base.specs.declared.search.Candidate.{Candidate}
use Rattle.lv_boxes.specs.Members.{ZoneValue}
use Rattle.lv_model.specs.declared.plant.Plant.{Plant}
use Rattle.lv_model.specs.declared.plant.ComponentType.{ComponentType}
use Rattle.lv_model.specs.declared.plant.Part.{Part}
use Rattle.lv_model.specs.declared.plant.Move.{Move}
use Rattle.lv_model.specs.declared.state.TrackedState.{TrackedState}
use Rattle.lv_compile.specs.WindowLaws.{counts_of}
use Rattle.lv_meaning.specs.Candidates.{type_moves}
use Rattle.lv_meaning.specs.PossibleLaws.{are_below}
use Rattle.lv_search_zones.specs.Moves.{move_slots, masks_of}

-- the slots of so many steps
abbrev pub window_slots : Plant → ℕ → List (List Cost)
window_slots plant zero = []
window_slots plant (suc steps) = move_slots plant ++ window_slots plant steps

-- the mask that leaves up to 64 choices
abbrev pub any_move : ℕ
any_move = 2 ^ 64 - 1

-- so many steps with any moves
abbrev pub free_masks : Plant → ℕ → List ℕ
free_masks plant zero = []
free_masks plant (suc steps) = map (λ (p : Part). any_move) plant.parts ++ free_masks plant steps

-- from the tracked state that has this place one step by moves from its modes, then so many by any
abbrev pub window_zone : Plant → ℕ → ℕ → TrackedState → ZoneValue
window_zone plant later place s = record { source = place; base = s.cost; masks = masks_of plant.types plant.parts s.state.modes ++ free_masks plant later }

abbrev pub window_zones : Plant → ℕ → ℕ → List TrackedState → List ZoneValue
window_zones plant later place [] = []
window_zones plant later place (s ∷ ss) = window_zone plant later place s ∷ window_zones plant later (place + 1) ss

-- the n-th move at the one slot doesn't lead to where the move at the other begins
abbrev pub breaks : ℕ → ℕ → ℕ → Move → ℕ → Move → List (List Pair)
breaks slot behind n m k l =
    if nat_eq l.source.0 m.target.0 then [] else ((record { slot = slot; choice = n } ∷ record { slot = behind; choice = k } ∷ []) ∷ [])

-- of the moves behind, the first of which has this number
abbrev pub breaks_of : ℕ → ℕ → ℕ → Move → ℕ → List Move → List (List Pair)
breaks_of slot behind n m k [] = []
breaks_of slot behind n m k (l ∷ ls) = breaks slot behind n m k l ++ breaks_of slot behind n m (k + 1) ls

abbrev pub joints_of : ℕ → ℕ → ℕ → List Move → List Move → List (List Pair)
joints_of slot behind n [] all = []
joints_of slot behind n (m ∷ ms) all = breaks_of slot behind n m 0 all ++ joints_of slot behind (n + 1) ms all

-- of the parts of one step and the next, the first of which have these slots
abbrev pub part_joints : List ComponentType → ℕ → ℕ → List Part → List (List Pair)
part_joints types slot behind [] = []
part_joints types slot behind (p ∷ ps) = joints_of slot behind 0 (type_moves types p) (type_moves types p) ++ part_joints types (slot + 1) (behind + 1) ps

-- between a step whose first part has this slot and each of so many later ones
abbrev pub joints_from : Plant → ℕ → ℕ → List (List Pair)
joints_from plant slot zero = []
joints_from plant slot (suc later) = part_joints plant.types slot (slot + length plant.parts) plant.parts ++ joints_from plant (slot + length plant.parts) later

abbrev pub joints : Plant → ℕ → List (List Pair)
joints plant later = joints_from plant 0 later

-- one move for each part of each step, which its type has
abbrev pub is_full_window : Plant → ℕ → Candidate → Bool
is_full_window plant steps c = are_below (counts_of plant steps) c.choices
