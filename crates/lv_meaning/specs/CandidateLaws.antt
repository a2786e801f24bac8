-- What the candidates of tracked states are, and which of them are the answer.
use Rattle.std.specs.Prelude.{◌≡◌, ℕ, ◌+◌, ◌≤◌, ◌<◌, Bool, true, false, ◌&&◌, nat_eq, List, [], ◌∷◌, length, Contains, slice_get, Some}
use Rattle.std.specs.Option.{option_map_or}
use Rattle.lv_base.specs.declared.ids.ValId.{ValId}
use Rattle.lv_base.specs.declared.rank.Rank.{Rank}
use Rattle.lv_base.specs.Rank.{ranks_before}
use Rattle.lv_model.specs.declared.plant.Plant.{Plant}
use Rattle.lv_model.specs.declared.plant.ComponentType.{ComponentType}
use Rattle.lv_model.specs.declared.plant.Part.{Part}
use Rattle.lv_model.specs.declared.plant.Move.{Move}
use Rattle.lv_boxes.specs.Ranked.{rises}
use Rattle.lv_meaning.specs.declared.facts.Facts.{Facts}
use Rattle.lv_model.specs.declared.state.TrackedState.{TrackedState}
use Rattle.lv_meaning.specs.Candidates.{type_moves, move_cost, candidates, is_possible_rank, first_possible}

-- the candidates are in strictly rising order
abbrev pub CandidatesRise : Type 0
CandidatesRise = (plant : Plant) (tracked : List TrackedState) → rises (candidates plant tracked) ≡ true

-- there is a move of this number, and it goes from this mode
abbrev pub goes_from : List Move → ℕ → ℕ → Bool
goes_from moves mode n = option_map_or (λ (m : Move). nat_eq m.source.0 mode) (slice_get moves n) false

-- one move for each part, which goes from the part's mode
abbrev pub are_moves : List ComponentType → List Part → List ValId → List ℕ → Bool
are_moves types [] modes [] = true
are_moves types [] modes (c ∷ cs) = false
are_moves types (p ∷ ps) [] cs = false
are_moves types (p ∷ ps) (v ∷ vs) [] = false
are_moves types (p ∷ ps) (v ∷ vs) (c ∷ cs) = goes_from (type_moves types p) v.0 c && are_moves types ps vs cs

-- what the moves of the parts cost together
abbrev pub moves_cost : List ComponentType → List Part → List ℕ → ℕ
moves_cost types [] cs = 0
moves_cost types (p ∷ ps) [] = 0
moves_cost types (p ∷ ps) (c ∷ cs) = move_cost (type_moves types p) c + moves_cost types ps cs

-- a tracked state at the source's place, one move for each part from its mode there, and the cost of the state and the moves
pub record IsCandidate (plant : Plant) (tracked : List TrackedState) (r : Rank) : Type 0 where
  pub state : TrackedState
  pub source : slice_get tracked r.source ≡ Some state
  pub moves : are_moves plant.types plant.parts state.state.modes r.choices ≡ true
  pub cost : r.cost.0 ≡ state.cost.0 + moves_cost plant.types plant.parts r.choices

-- exactly these are listed as candidates
pub record CandidatesAreAll : Type 0 where
  pub listed : (plant : Plant) (tracked : List TrackedState) (r : Rank) → IsCandidate plant tracked r → Contains (candidates plant tracked) r
  pub are : (plant : Plant) (tracked : List TrackedState) (r : Rank) → Contains (candidates plant tracked) r → IsCandidate plant tracked r

-- at most k possible candidates in rising order; every other possible candidate ranks after all of them, and there is no other one
-- where they are fewer than k
pub record IsAnswer (k : ℕ) (plant : Plant) (facts : Facts) (tracked : List TrackedState) (answer : List Rank) : Type 0 where
  pub few : length answer ≤ k
  pub rising : rises answer ≡ true
  pub candidates : (r : Rank) → Contains answer r → IsCandidate plant tracked r
  pub possible : (r : Rank) → Contains answer r → is_possible_rank plant facts r ≡ true
  pub others_after : (r other : Rank) → Contains answer r → IsCandidate plant tracked other → is_possible_rank plant facts other ≡ true
      → (Contains answer other → ⊥) → ranks_before r other ≡ true
  pub none_left_out : length answer < k → (r : Rank) → IsCandidate plant tracked r → is_possible_rank plant facts r ≡ true → Contains answer r

abbrev pub AnswerIsFirst : Type 0
AnswerIsFirst = (k : ℕ) (plant : Plant) (facts : Facts) (tracked : List TrackedState) → IsAnswer k plant facts tracked (first_possible k plant facts tracked)

-- and no other list is an answer
abbrev pub AnswerIsOne : Type 0
AnswerIsOne = (k : ℕ) (plant : Plant) (facts : Facts) (tracked : List TrackedState) (answer : List Rank) → IsAnswer k plant facts tracked answer
    → answer ≡ first_possible k plant facts tracked
