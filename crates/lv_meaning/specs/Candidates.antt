-- The candidates in the order of their ranks, and the first that are possible.
use Rattle.std.specs.Prelude.{ℕ, ◌+◌, ◌≤◌, Bool, nat_eq, List, [], ◌∷◌, ◌++◌, length, take, filter, slice_get, if◌then◌else◌, ◌≡◌}
use Rattle.std.specs.List.{flat_map}
use Rattle.std.specs.Option.{option_map_or}
use Rattle.lv_base.specs.declared.ids.ValId.{ValId}
use Rattle.lv_base.specs.declared.rank.Rank.{Rank}
use Rattle.lv_base.specs.declared.search.Candidate.{Candidate}
use Rattle.lv_base.specs.declared.limits.TheConstants.{TRACKED_COST}
use Rattle.lv_base.specs.Choices.{pairs_of}
use Rattle.lv_model.specs.declared.plant.Plant.{Plant}
use Rattle.lv_model.specs.declared.plant.ComponentType.{ComponentType}
use Rattle.lv_model.specs.declared.plant.Move.{Move}
use Rattle.lv_model.specs.declared.plant.Part.{Part}
use Rattle.lv_model.specs.declared.state.TrackedState.{TrackedState}
use Rattle.lv_boxes.specs.Ranked.{ranked}
use Rattle.lv_boxes.specs.Walk.{candidate_of}
use Rattle.lv_meaning.specs.declared.facts.Facts.{Facts}
use Rattle.lv_meaning.specs.Possible.{is_possible}

-- the numbers of the moves from the mode, where the first has this number
abbrev pub numbers_from : ℕ → ℕ → List Move → List ℕ
numbers_from n mode [] = []
numbers_from n mode (m ∷ ms) = (if nat_eq m.source.0 mode then n ∷ numbers_from (n + 1) mode ms else numbers_from (n + 1) mode ms)

-- the moves of the part's type
abbrev pub type_moves : List ComponentType → Part → List Move
type_moves types p = option_map_or (λ (t : ComponentType). t.moves) (slice_get types p.kind) []

abbrev pub move_cost : List Move → ℕ → ℕ
move_cost moves n = option_map_or (λ (m : Move). m.cost.0) (slice_get moves n) 0

-- every way to go on from choices of this cost with one move for each of these parts, which are in these modes: part by part each
-- move from its mode
abbrev pub ranks_from : List ComponentType → ℕ → List Part → List ValId → ℕ → List ℕ → List Rank
ranks_from types place [] modes cost choices = record { cost = record { 0 = cost }; source = place; choices = choices } ∷ []
ranks_from types place (p ∷ ps) [] cost choices = []
ranks_from types place (p ∷ ps) (v ∷ vs) cost choices =
    flat_map (λ n. ranks_from types place ps vs (cost + move_cost (type_moves types p) n) (choices ++ (n ∷ []))) (numbers_from 0 v.0 (type_moves types p))

-- all candidates of the tracked states, the first of which has this place
abbrev pub ranks_of : Plant → ℕ → List TrackedState → List Rank
ranks_of plant place [] = []
ranks_of plant place (s ∷ ss) = ranks_from plant.types place plant.parts s.state.modes s.cost.0 [] ++ ranks_of plant (place + 1) ss

-- the candidates of the tracked states by cost, then place, then choices
abbrev pub candidates : Plant → List TrackedState → List Rank
candidates plant tracked = ranked (ranks_of plant 0 tracked)

-- all choices of the candidate are possible together
abbrev pub is_possible_candidate : Plant → Facts → Candidate → Bool
is_possible_candidate plant facts c = is_possible plant facts (pairs_of c.choices)

abbrev pub is_possible_rank : Plant → Facts → Rank → Bool
is_possible_rank plant facts r = is_possible_candidate plant facts (candidate_of r)

-- the first k candidates that are possible, or all if fewer are
abbrev pub first_possible : ℕ → Plant → Facts → List TrackedState → List Rank
first_possible k plant facts tracked = take k (filter (is_possible_rank plant facts) (candidates plant tracked))

-- a tracked state with a mode for each part and a cost that leaves room for all faults
pub record IsTracked (parts : ℕ) (s : TrackedState) : Type 0 where
  pub modes : length s.state.modes ≡ parts
  pub cost : s.cost.0 ≤ TRACKED_COST
