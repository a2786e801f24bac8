-- How the step is found: what is assumed of it so far, a step that is so, and that none comes before it.
use Rattle.std.specs.Prelude.{◌≡◌, ◌-◌, ◌<◌, ℕ, Bool, true, false, nat_eq, nat_lt, ◌&&◌, if◌then◌else◌, List, [], ◌∷◌, ◌++◌, length, take, Option, Some, None}
use Rattle.std.specs.Cmp.Lexicographic.{pointwise}
use Rattle.lv_base.specs.declared.ids.Lit.{Lit}
use Rattle.lv_base.specs.declared.ids.ValId.{ValId}
use Rattle.lv_base.specs.declared.ids.MoveId.{MoveId}
use Rattle.lv_clauses.specs.ClauseMap.{ClauseMap}
use Rattle.lv_model.specs.declared.plant.Plant.{Plant}
use Rattle.lv_model.specs.Lists.{sizes, move_counts}
use Rattle.lv_meaning.specs.Possible.{value}
use Rattle.lv_system.specs.lv_compile.Booleans.{Booleans, value_literal, booleans_now, booleans_next, first_choice, bool_count}
use Rattle.lv_system.specs.lv_compile.Laws.{Encode, EncodeMoves}
use Rattle.lv_system.specs.Encoding.{truth_in}
use Rattle.lv_system.specs.System.{SystemValue, IsSystemOf}
use Rattle.lv_system.specs.Decoding.{IsDecoded}
use Rattle.lv_plant_step.specs.declared.asked.Asked.{Asked}
use Rattle.lv_plant_step.specs.declared.lead.Lead.{Lead}
use Rattle.lv_plant_step.specs.FirstList.{comes_before}
use Rattle.lv_plant_step.specs.PlantSteps.{places, is_as_asked, are_plant_step}
use Rattle.lv_plant_step.specs.Assuming.{Assumption, holds}

-- the literal that the value at this place is the one of this number
abbrev pub place_literal : Booleans → Booleans → ℕ → ℕ → Lit
place_literal before after k v = if nat_lt k (length before.sizes) then value_literal before k v true else value_literal after (k - length before.sizes) v true

-- the stepper's clauses are those of the plant's system
pub record IsStepper (plant : Plant) (system : SystemValue) (set : ClauseMap) : Type 0 where
  pub of_plant : IsSystemOf plant system
  pub clauses : set ≡ system.set

-- the truth values encode these assignments before and after a step and this full choice
pub record Encodes (plant : Plant) (values : List Bool) (a b : List ValId) (ms : List MoveId) : Type 0 where
  pub before : length a ≡ length (sizes plant)
  pub after : length b ≡ length (sizes plant)
  pub now : Encode (truth_in values) (booleans_now plant) a
  pub next : Encode (truth_in values) (booleans_next plant) b
  pub choice : EncodeMoves (truth_in values) (first_choice plant) (move_counts plant) ms

-- the value is one of so many
abbrev pub is_value : ValId → ℕ → Bool
is_value v n = nat_lt v.0 n

-- one value for each size, and each is one of so many
abbrev pub are_values : List ℕ → List ValId → Bool
are_values sizes vs = pointwise is_value vs sizes

-- the list begins with these values
abbrev pub has_front : List ValId → List ValId → Bool
has_front [] xs = true
has_front (v ∷ vs) [] = false
has_front (v ∷ vs) (x ∷ xs) = nat_eq x.0 v.0 && has_front vs xs

-- what is assumed says that a step is as asked and begins with these values
pub record Asks (plant : Plant) (asked : Asked) (front : List ValId) (s : Assumption) : Type 0 where
  pub bools : s.bools ≡ bool_count plant
  pub says : (values : List Bool) (a b : List ValId) (ms : List MoveId) → Encodes plant values a b ms → holds values s ≡ (is_as_asked plant asked a ms && has_front front (a ++ b))

-- the values, before and after, are a plant step that begins with these
pub record BeginsSo (plant : Plant) (asked : Asked) (front vs : List ValId) : Type 0 where
  pub values : are_values (places plant) vs ≡ true
  pub begins : has_front front vs ≡ true
  pub step : are_plant_step plant asked vs ≡ true

-- what is assumed says so, and the values are such a step
pub record IsLeadTo (plant : Plant) (asked : Asked) (front : List ValId) (lead : Lead) : Type 0 where
  pub asks : Asks plant asked front lead.assumed
  pub begins : BeginsSo plant asked front lead.values

-- some such step, or that there is none
abbrev pub LeadsTo : Plant → Asked → List ValId → Option Lead → Type 0
LeadsTo plant asked front (Some lead) = IsLeadTo plant asked front lead
LeadsTo plant asked front None = (vs : List ValId) → ¬ BeginsSo plant asked front vs

-- what is assumed is of the plant's booleans, and the values are of its variables
pub record CanLead (plant : Plant) (lead : Lead) : Type 0 where
  pub bools : lead.assumed.bools ≡ bool_count plant
  pub values : are_values (places plant) lead.values ≡ true

-- no plant step has one of the first values at this place, and before it these
pub record NoneBelow (plant : Plant) (asked : Asked) (front : List ValId) (bound : ℕ) : Type 0 where
  pub none : (v : ℕ) → v < bound → (vs : List ValId) → ¬ BeginsSo plant asked (front ++ value v ∷ []) vs

-- the values are a plant step; up to this place no plant step comes before them, and they are what is assumed
pub record IsLed (plant : Plant) (asked : Asked) (place : ℕ) (lead : Lead) : Type 0 where
  pub is : IsLeadTo plant asked (take place lead.values) lead
  pub first : (other : List ValId) → BeginsSo plant asked [] other → comes_before (take place other) (take place lead.values) ≡ false

-- the values before and after of a step that truth values encode
pub record AreDecoded (s : SystemValue) (truth : List Bool) (vs : List ValId) : Type 0 where
  pub before : List ValId
  pub after : List ValId
  pub moves : List MoveId
  pub decoded : IsDecoded s truth before after moves
  pub are : vs ≡ before ++ after
