-- What is written of a script.
use Rattle.std.specs.Prelude.{ℕ, List, [], ◌∷◌, ◌++◌}
use Rattle.lv_plant.specs.Standing.{Standing, done}
use Rattle.lv_plant.specs.Replies.{plant_text}
use Rattle.lv_plant.specs.Answering.{next_at}

-- the texts of the replies to these lines, one behind the other
abbrev pub script_text : Standing → List (List ℕ) → List ℕ
script_text s [] = []
script_text s (line ∷ lines) = plant_text s.session.plant (done s line).reply ++ script_text (next_at s line) lines
