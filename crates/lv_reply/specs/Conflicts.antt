-- The text of the conflicts of a diagnosis, a window or a recovery.
use Rattle.std.specs.Prelude.{ℕ, ◌+◌, ◌/◌, ◌%◌, List, [], ◌∷◌, ◌++◌, length, map, slice_get, codes, decimal}
use Rattle.std.specs.Option.{option_map_or}
use Rattle.lv_base.specs.declared.search.Pair.{Pair}
use Rattle.lv_base.specs.declared.ids.VarId.{VarId}
use Rattle.lv_model.specs.declared.plant.Plant.{Plant}
use Rattle.lv_model.specs.declared.plant.ComponentType.{ComponentType}
use Rattle.lv_model.specs.declared.plant.Move.{Move}
use Rattle.lv_model.specs.declared.plant.Part.{Part}
use Rattle.lv_model.specs.Lists.{controls}
use Rattle.lv_reply.specs.Pieces.{joined}
use Rattle.lv_reply.specs.Moves.{item_text}
use Rattle.lv_reply.specs.Variables.{setting_text}

-- the part's n-th move; nothing where there is no such move
abbrev pub choice_text : List ComponentType → Part → ℕ → List ℕ
choice_text types p n =
    option_map_or (λ (t : ComponentType). option_map_or (λ (m : Move). item_text m.kind p t.modes m) (slice_get t.moves n) []) (slice_get types p.kind) []

-- the part and move of a pair; nothing where there is no such part
abbrev pub pair_text : Plant → Pair → List ℕ
pair_text plant pair = option_map_or (λ (p : Part). choice_text plant.types p pair.choice) (slice_get plant.parts pair.slot) []

-- the same of the part at a place; nothing where there is no such part
abbrev pub choice_at : Plant → ℕ → ℕ → List ℕ
choice_at plant place n = option_map_or (λ (p : Part). choice_text plant.types p n) (slice_get plant.parts place) []

-- `at S`, S being the time from which the pair's step starts, and its part and move; the first step starts from this time. Slots count the
-- parts of one step after those of the one before
abbrev pub timed_pair_text : Plant → ℕ → Pair → List ℕ
timed_pair_text plant first pair =
    codes "at " ++ decimal (first + pair.slot / length plant.parts) ++ codes " " ++ choice_at plant (pair.slot % length plant.parts) pair.choice

-- the value of a control, a number of these, as `v.cmd=open`; nothing where there is no such control
abbrev pub command_text : Plant → List VarId → Pair → List ℕ
command_text plant controls pair = option_map_or (λ (c : VarId). setting_text plant c.0 pair.choice) (slice_get controls pair.slot) []

-- `I: ITEMS`, where a pair has this text
abbrev pub conflict_line : (Pair → List ℕ) → ℕ → List Pair → List ℕ
conflict_line text n pairs = decimal n ++ codes ": " ++ joined (map text pairs) ++ codes "\n"

-- a line for each conflict, the first with this number
abbrev pub conflict_lines : (Pair → List ℕ) → ℕ → List (List Pair) → List ℕ
conflict_lines text n [] = []
conflict_lines text n (pairs ∷ kept) = conflict_line text n pairs ++ conflict_lines text (n + 1) kept

-- `conflicts N trials T` and the conflicts
abbrev pub conflicts_by : (Pair → List ℕ) → List (List Pair) → ℕ → List ℕ
conflicts_by text kept trials =
    codes "conflicts " ++ decimal (length kept) ++ codes " trials " ++ decimal trials ++ codes "\n" ++ conflict_lines text 1 kept

-- the conflicts of a diagnosis: of moves
unfoldable pub conflicts_text : Plant → List (List Pair) → ℕ → List ℕ
conflicts_text plant kept trials = conflicts_by (pair_text plant) kept trials

-- the conflicts of a window whose first step starts from this time: of moves, with the time of each
unfoldable pub window_conflicts_text : Plant → ℕ → List (List Pair) → ℕ → List ℕ
window_conflicts_text plant first kept trials = conflicts_by (timed_pair_text plant first) kept trials

-- the conflicts of a recovery: of values of the controls
unfoldable pub command_conflicts_text : Plant → List (List Pair) → ℕ → List ℕ
command_conflicts_text plant kept trials = conflicts_by (command_text plant (controls plant)) kept trials
