-- Of states with the same modes the first.
use Rattle.std.specs.Prelude.{Bool, true, nat_eq, ◌&&◌, not, List, [], ◌∷◌, ◌++◌, filter, if◌then◌else◌}
use Rattle.std.specs.List.{list_all, list_any}
use Rattle.std.specs.Cmp.Lexicographic.{pointwise}
use Rattle.lv_base.specs.declared.ids.ValId.{ValId}
use Rattle.lv_model.specs.declared.state.TrackedState.{TrackedState}

abbrev pub is_same_mode : ValId → ValId → Bool
is_same_mode a b = nat_eq a.0 b.0

abbrev pub has_modes : List ValId → TrackedState → Bool
has_modes modes s = pointwise is_same_mode s.state.modes modes

-- the states have different modes
abbrev pub differs : TrackedState → TrackedState → Bool
differs s t = not (has_modes s.state.modes t)

-- no two of the states have the same modes
abbrev pub are_distinct : List TrackedState → Bool
are_distinct [] = true
are_distinct (s ∷ ss) = list_all (differs s) ss && are_distinct ss

-- the states without each that has the modes of an earlier one
abbrev pub first_of_each : List TrackedState → List TrackedState
first_of_each [] = []
first_of_each (s ∷ ss) = s ∷ filter (differs s) (first_of_each ss)

-- the states with one more behind them, unless it has the modes of one of them
abbrev pub with_new : List TrackedState → TrackedState → List TrackedState
with_new states s = if list_any (has_modes s.state.modes) states then states else states ++ s ∷ []
