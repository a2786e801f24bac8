-- The text of tracked states.
use Rattle.std.specs.Prelude.{ℕ, ◌+◌, List, [], ◌∷◌, ◌++◌, length, slice_get, codes, decimal}
use Rattle.std.specs.Option.{option_map_or}
use Rattle.lv_base.specs.declared.ids.ValId.{ValId}
use Rattle.lv_model.specs.declared.plant.Plant.{Plant}
use Rattle.lv_model.specs.declared.plant.ComponentType.{ComponentType}
use Rattle.lv_model.specs.declared.plant.Part.{Part}
use Rattle.lv_model.specs.declared.state.TrackedState.{TrackedState}
use Rattle.lv_reply.specs.Pieces.{name_at, joined}

-- a part and its mode, as `v=closed`
abbrev pub part_text : List ComponentType → Part → ValId → List ℕ
part_text types p mode = p.name ++ codes "=" ++ option_map_or (λ (t : ComponentType). name_at t.modes mode.0) (slice_get types p.kind) []

-- the parts and their modes, in order
abbrev pub part_texts : List ComponentType → List Part → List ValId → List (List ℕ)
part_texts types [] modes = []
part_texts types (p ∷ ps) [] = []
part_texts types (p ∷ ps) (v ∷ vs) = part_text types p v ∷ part_texts types ps vs

-- `I cost C: P=MODE, ..`
abbrev pub state_line : Plant → ℕ → TrackedState → List ℕ
state_line plant n s =
    decimal n ++ codes " cost " ++ decimal s.cost.0 ++ codes ": " ++ joined (part_texts plant.types plant.parts s.state.modes) ++ codes "\n"

-- a line for each state, the first with this number
abbrev pub state_lines : Plant → ℕ → List TrackedState → List ℕ
state_lines plant n [] = []
state_lines plant n (s ∷ ss) = state_line plant n s ++ state_lines plant (n + 1) ss

-- `time T tracked N`
unfoldable pub committed_text : ℕ → ℕ → List ℕ
committed_text time tracked = codes "time " ++ decimal time ++ codes " tracked " ++ decimal tracked ++ codes "\n"

-- the same, and the states
unfoldable pub states_text : Plant → ℕ → List TrackedState → List ℕ
states_text plant time tracked = committed_text time (length tracked) ++ state_lines plant 1 tracked
