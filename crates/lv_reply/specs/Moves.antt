-- Moves and modes by the names of the plant.
use Rattle.std.specs.Prelude.{ℕ, List, ◌++◌, codes, decimal}
use Rattle.lv_model.specs.declared.plant.Move.{Move}
use Rattle.lv_model.specs.declared.plant.MoveKind.{MoveKind}
use Rattle.lv_model.specs.declared.plant.MoveKind.TheVariants.{Step, Stay, Fault}
use Rattle.lv_model.specs.declared.plant.Part.{Part}
use Rattle.lv_reply.specs.Pieces.{name_at}

-- a step or a fault, as `v closed>open #1`
abbrev pub move_text : Part → List (List ℕ) → Move → List ℕ
move_text p modes m =
    p.name ++ codes " " ++ name_at modes m.source.0 ++ codes ">" ++ name_at modes m.target.0 ++ codes " #" ++ decimal m.line

-- a stay, as `v closed stay`
abbrev pub stay_text : Part → List (List ℕ) → Move → List ℕ
stay_text p modes m = p.name ++ codes " " ++ name_at modes m.source.0 ++ codes " stay"

-- a move of its kind, where stays are written too
abbrev pub item_text : MoveKind → Part → List (List ℕ) → Move → List ℕ
item_text Step p modes m = move_text p modes m
item_text Stay p modes m = stay_text p modes m
item_text Fault p modes m = move_text p modes m
