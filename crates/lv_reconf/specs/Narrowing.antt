-- What clauses say of the assignments and the full choice that truth values encode.
use Rattle.std.specs.Prelude.{◌≡◌, ℕ, Bool, true, ◌&&◌, ◌||◌, not, nat_eq, List, [], ◌∷◌, ◌+◌}
use Rattle.std.specs.List.{list_all}
use Rattle.lv_base.specs.declared.ids.Lit.{Lit}
use Rattle.lv_base.specs.declared.ids.ValId.{ValId}
use Rattle.lv_base.specs.declared.ids.MoveId.{MoveId}
use Rattle.lv_clauses.specs.Literals.{clause_holds}
use Rattle.lv_clauses.specs.ClauseMap.{ClauseMap, satisfies}
use Rattle.lv_model.specs.declared.plant.Plant.{Plant}
use Rattle.lv_model.specs.declared.plant.Move.{Move}
use Rattle.lv_model.specs.Lists.{move_counts}
use Rattle.lv_model.specs.Meaning.{is_step, is_nominal, is_no_fault}
use Rattle.lv_compile.specs.Booleans.{booleans_now, booleans_next, first_choice, bool_count}
use Rattle.lv_compile.specs.Laws.{Encode, EncodeMoves, IsEncodedStep}
use Rattle.lv_meaning.specs.declared.facts.Observation.{Observation}
use Rattle.lv_meaning.specs.Facts.{meets}
use Rattle.lv_system.specs.Choices.{Choices}
use Rattle.lv_system.specs.Encoding.{truth_in}

-- the truth values encode these assignments before and after a step and this full choice
pub record Encodes (plant : Plant) (values : List Bool) (a b : List ValId) (ms : List MoveId) : Type 0 where
  pub now : Encode (truth_in values) (booleans_now plant) a
  pub next : Encode (truth_in values) (booleans_next plant) b
  pub choice : EncodeMoves (truth_in values) (first_choice plant) (move_counts plant) ms

-- the booleans of the choices of the plant
abbrev pub choices_of_plant : Plant → Choices
choices_of_plant plant = record { first = first_choice plant; counts = move_counts plant }

-- a fact about assignments before and after a step and a full choice
abbrev pub Fact : Type 0
Fact = List ValId → List ValId → List MoveId → Bool

-- the new clauses say what the old ones say and these clauses
pub record Adds (old new : ClauseMap) (clauses : List (List Lit)) : Type 0 where
  pub bools : new.bools ≡ old.bools
  pub says : (values : List Bool) → satisfies values new.slots ≡ (satisfies values old.slots && list_all (clause_holds values) clauses)

-- the new clauses and what is left say what the old ones say and the whole fact
pub record NarrowsSoFar (plant : Plant) (old new : ClauseMap) (left whole : Fact) : Type 0 where
  pub bools : new.bools ≡ old.bools
  pub fewer : (values : List Bool) → satisfies values new.slots ≡ true → satisfies values old.slots ≡ true
  pub exact : (values : List Bool) (a b : List ValId) (ms : List MoveId) → Encodes plant values a b ms
      → (satisfies values new.slots && left a b ms) ≡ (satisfies values old.slots && whole a b ms)

-- the new clauses say what the old ones say and the fact
pub record Narrows (plant : Plant) (old new : ClauseMap) (fact : Fact) : Type 0 where
  pub bools : new.bools ≡ old.bools
  pub fewer : (values : List Bool) → satisfies values new.slots ≡ true → satisfies values old.slots ≡ true
  pub exact : (values : List Bool) (a b : List ValId) (ms : List MoveId) → Encodes plant values a b ms → satisfies values new.slots ≡ (satisfies values old.slots && fact a b ms)

-- of moves, the first of which has the number n, the one of number j isn't a fault
abbrev pub no_fault_from : ℕ → List Move → ℕ → Bool
no_fault_from n [] j = true
no_fault_from n (m ∷ ms) j = (not (nat_eq j n) || is_no_fault m.kind) && no_fault_from (n + 1) ms j

-- the clauses say that there is a nominal step that meets the observations and ends so
pub record Asks (plant : Plant) (present : List Observation) (ends : List ValId → Bool) (set : ClauseMap) : Type 0 where
  pub bools : set.bools ≡ bool_count plant
  pub decodes : (values : List Bool) → satisfies values set.slots ≡ true → IsEncodedStep plant (truth_in values)
  pub exact : (values : List Bool) (a b : List ValId) (ms : List MoveId) → Encodes plant values a b ms
      → satisfies values set.slots ≡ (((is_step plant a b ms && meets a present) && is_nominal plant ms) && ends b)
