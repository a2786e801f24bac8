-- The text of a diagnosis, and of a window: a diagnosis is told as a window of one step.
use Rattle.std.specs.Prelude.{ℕ, ◌+◌, ◌-◌, zero, suc, List, [], ◌∷◌, ◌++◌, length, drop, slice_get, codes, decimal}
use Rattle.std.specs.Option.{option_map_or}
use Rattle.lv_base.specs.declared.rank.Rank.{Rank}
use Rattle.lv_model.specs.declared.plant.Plant.{Plant}
use Rattle.lv_model.specs.declared.plant.ComponentType.{ComponentType}
use Rattle.lv_model.specs.declared.plant.Move.{Move}
use Rattle.lv_model.specs.declared.plant.MoveKind.{MoveKind}
use Rattle.lv_model.specs.declared.plant.MoveKind.TheVariants.{Step, Stay, Fault}
use Rattle.lv_model.specs.declared.plant.Part.{Part}
use Rattle.lv_reply.specs.Pieces.{joined}
use Rattle.lv_reply.specs.Moves.{move_text}

-- what a move of its kind shows: a stay nothing
abbrev pub shown : MoveKind → List ℕ → List (List ℕ)
shown Step text = text ∷ []
shown Stay text = []
shown Fault text = text ∷ []

-- what the part's n-th move shows
abbrev pub shown_move : List ComponentType → Part → ℕ → List (List ℕ)
shown_move types p n =
    option_map_or (λ (t : ComponentType). option_map_or (λ (m : Move). shown m.kind (move_text p t.modes m)) (slice_get t.moves n) []) (slice_get types p.kind) []

-- what the moves of these parts show, in order
abbrev pub shown_moves : List ComponentType → List Part → List ℕ → List (List ℕ)
shown_moves types [] choices = []
shown_moves types (p ∷ ps) [] = []
shown_moves types (p ∷ ps) (c ∷ cs) = shown_move types p c ++ shown_moves types ps cs

abbrev pub moves_text : Plant → List ℕ → List ℕ
moves_text plant choices = joined (shown_moves plant.types plant.parts choices)

-- the moves of so many later steps, each step's behind a semicolon: a step has a choice for each part
abbrev pub later_moves : Plant → ℕ → List ℕ → List ℕ
later_moves plant zero choices = []
later_moves plant (suc later) choices = codes " ; " ++ moves_text plant choices ++ later_moves plant later (drop (length plant.parts) choices)

-- `I cost C from S: `
abbrev pub listed_head : ℕ → Rank → List ℕ
listed_head n r = decimal n ++ codes " cost " ++ decimal r.cost.0 ++ codes " from " ++ decimal (r.source + 1) ++ codes ": "

-- `I cost C from S: MOVES`, with the moves of each of so many steps
abbrev pub listed_line : Plant → ℕ → ℕ → Rank → List ℕ
listed_line plant steps n r =
    listed_head n r ++ moves_text plant r.choices ++ later_moves plant (steps - 1) (drop (length plant.parts) r.choices) ++ codes "\n"

-- a line for each listed candidate or trajectory, the first with this number
abbrev pub listed_lines : Plant → ℕ → ℕ → List Rank → List ℕ
listed_lines plant steps n [] = []
listed_lines plant steps n (r ∷ rs) = listed_line plant steps n r ++ listed_lines plant steps (n + 1) rs

-- `settled N` and what is listed
unfoldable pub settled_text : Plant → ℕ → List Rank → List ℕ
settled_text plant steps ranks = codes "settled " ++ decimal (length ranks) ++ codes "\n" ++ listed_lines plant steps 1 ranks

-- `unsettled N trials T` and what is listed so far
unfoldable pub unsettled_text : Plant → ℕ → List Rank → ℕ → List ℕ
unsettled_text plant steps ranks trials =
    codes "unsettled " ++ decimal (length ranks) ++ codes " trials " ++ decimal trials ++ codes "\n" ++ listed_lines plant steps 1 ranks
