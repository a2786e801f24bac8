-- What holds of the tracked list, in the words of the states that were listed.
use Rattle.std.specs.Prelude.{◌≡◌, Bool, true, false, ◌&&◌, ◌||◌, not, List, [], ◌∷◌, Contains, Some}
use Rattle.std.specs.List.{list_all, list_any, find}
use Rattle.lv_model.specs.declared.state.TrackedState.{TrackedState}
use Rattle.lv_tracker.specs.Distinct.{has_modes, are_distinct, first_of_each}

-- the modes of a are listed before those of b are for the first time
abbrev pub appears_before : List TrackedState → TrackedState → TrackedState → Bool
appears_before [] a b = false
appears_before (s ∷ ss) a b = not (has_modes b.state.modes s) && (has_modes a.state.modes s || appears_before ss a b)

-- each of the states appears before all later ones
abbrev pub in_order_of : List TrackedState → List TrackedState → Bool
in_order_of listed [] = true
in_order_of listed (s ∷ ss) = list_all (appears_before listed s) ss && in_order_of listed ss

-- the modes of each listed state are kept; what is kept is the first listed with its modes, so at the cost of that one; none is kept
-- twice; and they stand in the order of their first appearance
pub record AreFirsts (listed kept : List TrackedState) : Type 0 where
  pub covered : (s : TrackedState) → Contains listed s → list_any (has_modes s.state.modes) kept ≡ true
  pub firsts : (s : TrackedState) → Contains kept s → find (has_modes s.state.modes) listed ≡ Some s
  pub distinct : are_distinct kept ≡ true
  pub in_order : in_order_of listed kept ≡ true

abbrev pub FirstOfEachAreFirsts : Type 0
FirstOfEachAreFirsts = (listed : List TrackedState) → AreFirsts listed (first_of_each listed)

-- and no other list is
abbrev pub FirstOfEachIsOne : Type 0
FirstOfEachIsOne = (listed kept : List TrackedState) → AreFirsts listed kept → kept ≡ first_of_each listed
