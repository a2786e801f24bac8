-- Literals that are assumed together, and what they say of the assignment before the step.
use Rattle.std.specs.Prelude.{◌≡◌, ℕ, Bool, true, nat_lt, ◌&&◌, List, IsTrue, filter, slice_index_or}
use Rattle.std.specs.List.{list_all}
use Rattle.lv_base.specs.declared.ids.Lit.{Lit}
use Rattle.lv_base.specs.declared.ids.ValId.{ValId}
use Rattle.lv_base.specs.declared.search.Pair.{Pair}
use Rattle.lv_clauses.specs.Literals.{is_clause, lit_holds}
use Rattle.lv_clauses.specs.Marks.{Marks, is_marked}
use Rattle.lv_model.specs.declared.plant.Plant.{Plant}
use Rattle.lv_model.specs.Lists.{controls}
use Rattle.lv_compile.specs.Booleans.{value_literal, booleans_now, bool_count}
use Rattle.lv_compile.specs.Laws.{Encode}
use Rattle.lv_system.specs.Encoding.{truth_in}
use Rattle.lv_meaning.specs.Commands.{control_sizes}
use Rattle.lv_meaning.specs.Recovers.{has_modes, has_controls}

-- they are of distinct booleans in range, and none is negative
pub record AreAssumed (bools : ℕ) (lits : List Lit) : Type 0 where
  pub clause : IsTrue (is_clause bools lits)
  pub positive : list_all (λ (l : Lit). l.sign) lits ≡ true

-- the new literals say what the old ones and this one say
pub record HasMore (bools : ℕ) (old new : List Lit) (lit : Lit) : Type 0 where
  pub assumed : AreAssumed bools new
  pub says : (values : List Bool) → list_all (lit_holds values) new ≡ (list_all (lit_holds values) old && lit_holds values lit)

-- the new literals and what is left say what the old ones say and the whole fact
pub record AssumesSoFar (plant : Plant) (old new : List Lit) (left whole : List ValId → Bool) : Type 0 where
  pub assumed : AreAssumed (bool_count plant) new
  pub exact : (values : List Bool) (a : List ValId) → Encode (truth_in values) (booleans_now plant) a
      → (list_all (lit_holds values) new && left a) ≡ (list_all (lit_holds values) old && whole a)

-- the new literals say what the old ones say and the fact
pub record Assumes (plant : Plant) (old new : List Lit) (fact : List ValId → Bool) : Type 0 where
  pub assumed : AreAssumed (bool_count plant) new
  pub exact : (values : List Bool) (a : List ValId) → Encode (truth_in values) (booleans_now plant) a → list_all (lit_holds values) new ≡ (list_all (lit_holds values) old && fact a)

-- the slot is a control's, and the choice one of its values
abbrev pub pair_fits : Plant → Pair → Bool
pair_fits plant p = nat_lt p.choice (slice_index_or (control_sizes plant) p.slot 0)

abbrev pub pairs_fit : Plant → List Pair → Bool
pairs_fit plant pairs = list_all (pair_fits plant) pairs

-- the plant, and values that controls have
pub record CommandedValue : Type 0 where
  pub plant : Plant
  pub pairs : List Pair

abbrev pub commanding : Plant → List Pair → CommandedValue
commanding plant pairs = record { plant = plant; pairs = pairs }

-- the literal that the control at the pair's slot has the pair's value
abbrev pub control_literal : Plant → Pair → Lit
control_literal plant p = value_literal (booleans_now plant) (slice_index_or (controls plant) p.slot (record { 0 = 0 })).0 p.choice true

-- what the old literals pass and this one passes, the new ones pass
pub record AddsOne (old new : List Lit) (lit : Lit) : Type 0 where
  pub each : (test : Lit → Bool) → list_all test old ≡ true → test lit ≡ true → list_all test new ≡ true

-- what the old literals pass and those of the pairs pass, the new ones pass
pub record AddsControls (plant : Plant) (old new : List Lit) (pairs : List Pair) : Type 0 where
  pub each : (test : Lit → Bool) → list_all test old ≡ true → list_all (λ (p : Pair). test (control_literal plant p)) pairs ≡ true → list_all test new ≡ true

-- those of the pairs of which the literal is marked
abbrev pub marked_controls : Plant → Marks → List Pair → List Pair
marked_controls plant marks pairs = filter (λ (p : Pair). is_marked marks (control_literal plant p)) pairs

-- of the literals those that are marked hold where the parts are in their modes and the marked pairs' controls have their values
pub record MarkedHold (plant : Plant) (modes : List ValId) (pairs : List Pair) (lits : List Lit) : Type 0 where
  pub each : (marks : Marks) (values : List Bool) (a : List ValId) → Encode (truth_in values) (booleans_now plant) a → has_modes plant.parts modes a ≡ true
      → has_controls (controls plant) a (marked_controls plant marks pairs) ≡ true → list_all (lit_holds values) (filter (is_marked marks) lits) ≡ true
