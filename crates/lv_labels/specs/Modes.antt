-- The modes of a state, and whether the parts have them.
use Rattle.std.specs.Prelude.{Bool, true, nat_lt, ◌&&◌, List, [], ◌∷◌, Option, None, Some}
use Rattle.lv_base.specs.declared.ids.ValId.{ValId}
use Rattle.lv_base.specs.declared.ids.VarId.{VarId}
use Rattle.lv_model.specs.declared.state.State.{State}
use Rattle.lv_compile.specs.Booleans.{Booleans}
use Rattle.lv_compile.specs.FormulaClauses.{size_of}

-- each of these variables that gets a value has it
abbrev pub are_values : Booleans → List VarId → List ValId → Bool
are_values b xs [] = true
are_values b [] (v ∷ vs) = true
are_values b (x ∷ xs) (v ∷ vs) = nat_lt v.0 (size_of b x.0) && are_values b xs vs

-- the modes of a state, if one is given
abbrev pub modes_in : Option State → List ValId
modes_in None = []
modes_in (Some state) = state.modes
