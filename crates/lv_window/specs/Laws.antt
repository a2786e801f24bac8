-- What trajectories, possible choices over steps and walks of windows are, in the subject's own words.
use Rattle.std.specs.Prelude.{◌≡◌, ℕ, ◌+◌, suc, true, false, not, List, [], ◌∷◌, ◌++◌, length, Contains, slice_get, Some}
use Rattle.std.specs.List.{list_all}
use Rattle.lv_base.specs.declared.ids.ValId.{ValId}
use Rattle.lv_base.specs.declared.rank.Rank.{Rank}
use Rattle.lv_base.specs.declared.search.Pair.{Pair}
use Rattle.lv_model.specs.declared.plant.Plant.{Plant}
use Rattle.lv_model.specs.declared.state.TrackedState.{TrackedState}
use Rattle.lv_model.specs.WellFormed.{is_well_formed}
use Rattle.lv_boxes.specs.declared.outcome.Outcome.TheVariants.{Settled}
use Rattle.lv_boxes.specs.Ranked.{rises}
use Rattle.lv_boxes.specs.Walk.{suit_all}
use Rattle.lv_boxes.specs.WalkLaws.{each_is_needed, none_in_another}
use Rattle.lv_boxes.specs.RankedMembers.{ranked_members, sources_differ}
use Rattle.lv_search.specs.Free.{free_of}
use Rattle.lv_meaning.specs.declared.facts.Facts.{Facts}
use Rattle.lv_meaning.specs.Candidates.{candidates}
use Rattle.lv_meaning.specs.CandidateLaws.{are_moves, moves_cost}
use Rattle.lv_meaning.specs.Possible.{is_possible}
use Rattle.lv_meaning.specs.Targets.{target_modes}
use Rattle.lv_meaning.specs.Diagnosis.{diagnosis_walk}
use Rattle.lv_window.specs.Trajectories.{trajectories}
use Rattle.lv_window.specs.Possible.{is_possible_over}
use Rattle.lv_window.specs.Walk.{window_walk, first_trajectories}
use Rattle.lv_window.specs.Joints.{window_slots, window_zones, joints, is_full_window}

-- full choices, one for each of so many steps, of which the first goes from these modes and each later one from where the one before led
abbrev pub JoinUp : Plant → List ValId → List (List ℕ) → Type 0
JoinUp plant modes [] = Unit {0}
JoinUp plant modes (cs ∷ rest) = (are_moves plant.types plant.parts modes cs ≡ true) × JoinUp plant (target_modes plant.types plant.parts cs) rest

-- all these choices, one behind the other, and what they cost together
abbrev pub all_choices : List (List ℕ) → List ℕ
all_choices [] = []
all_choices (cs ∷ rest) = cs ++ all_choices rest

abbrev pub all_cost : Plant → List (List ℕ) → ℕ
all_cost plant [] = 0
all_cost plant (cs ∷ rest) = moves_cost plant.types plant.parts cs + all_cost plant rest

-- a tracked state at the source's place, as many full choices as there are steps, which join up from its modes, and the cost of all
pub record IsTrajectory (plant : Plant) (steps : ℕ) (tracked : List TrackedState) (r : Rank) : Type 0 where
  pub state : TrackedState
  pub source : slice_get tracked r.source ≡ Some state
  pub moves : List (List ℕ)
  pub many : length moves ≡ steps
  pub join : JoinUp plant state.state.modes moves
  pub choices : r.choices ≡ all_choices moves
  pub cost : r.cost.0 ≡ state.cost.0 + all_cost plant moves

-- exactly these are listed, in strictly rising order
pub record TrajectoriesAreAll : Type 0 where
  pub rise : (plant : Plant) (steps : ℕ) (tracked : List TrackedState) → rises (trajectories plant steps tracked) ≡ true
  pub listed : (plant : Plant) (steps : ℕ) (tracked : List TrackedState) (r : Rank) → IsTrajectory plant steps tracked r → Contains (trajectories plant steps tracked) r
  pub are : (plant : Plant) (steps : ℕ) (tracked : List TrackedState) (r : Rank) → Contains (trajectories plant steps tracked) r → IsTrajectory plant steps tracked r

-- the members of the zones that contain no joint are the trajectories, in the same order; no two zones have one source; each trajectory
-- has a move for each part of each step
pub record ZonesHoldTheTrajectories : Type 0 where
  pub same : (plant : Plant) → is_well_formed plant ≡ true → (later : ℕ) (tracked : List TrackedState)
      → free_of (joints plant later) (ranked_members (window_slots plant (suc later)) (window_zones plant later 0 tracked)) ≡ trajectories plant (suc later) tracked
  pub differ : (plant : Plant) (later : ℕ) (tracked : List TrackedState) → sources_differ (window_zones plant later 0 tracked) ≡ true
  pub full : (plant : Plant) (steps : ℕ) (tracked : List TrackedState) → suit_all (is_full_window plant steps) (trajectories plant steps tracked) ≡ true

-- over one step possible, trajectory and walk are what they are of a diagnosis without the flag
pub record OneStepIsADiagnosis : Type 0 where
  pub possible : (plant : Plant) (facts : Facts) (partial : List Pair) → is_possible_over plant (facts ∷ []) partial ≡ is_possible plant facts partial
  pub entries : (plant : Plant) (tracked : List TrackedState) → trajectories plant 1 tracked ≡ candidates plant tracked
  pub walk : (plant : Plant) (facts : Facts) (k budget : ℕ) (ranks : List Rank) → window_walk plant (facts ∷ []) k budget ranks ≡ diagnosis_walk plant facts k false budget ranks

-- a partial choice whose pairs are all among those of a possible one is possible
abbrev pub PartsArePossible : Type 0
PartsArePossible =
    (plant : Plant) (steps : List Facts) (part whole : List Pair) → ((p : Pair) → Contains part p → Contains whole p) → is_possible_over plant steps whole ≡ true
    → is_possible_over plant steps part ≡ true

-- a settled window lists the first k trajectories that are possible
abbrev pub SettledWindowIsExact : Type 0
SettledWindowIsExact =
    (plant : Plant) (steps : List Facts) (k budget : ℕ) (tracked : List TrackedState)
    → (window_walk plant steps k budget (trajectories plant (length steps) tracked)).outcome ≡ Settled
    → (window_walk plant steps k budget (trajectories plant (length steps) tracked)).listed ≡ first_trajectories k plant steps tracked

-- the conflicts that it keeps aren't possible; of each no choice can be left out, without which the others are possible; none has all
-- choices of another
pub record KeptOfWindowAreMinimal : Type 0 where
  pub impossible : (plant : Plant) (steps : List Facts) (k budget : ℕ) (ranks : List Rank)
      → list_all (λ conflict. not (is_possible_over plant steps conflict)) (window_walk plant steps k budget ranks).kept ≡ true
  pub needed : (plant : Plant) (steps : List Facts) (k budget : ℕ) (ranks : List Rank)
      → list_all (each_is_needed (is_possible_over plant steps) []) (window_walk plant steps k budget ranks).kept ≡ true
  pub apart : (plant : Plant) (steps : List Facts) (k budget : ℕ) (ranks : List Rank) → none_in_another (window_walk plant steps k budget ranks).kept ≡ true
