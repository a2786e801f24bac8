-- What is written of a simulated plant in the loop.
use Rattle.std.specs.Prelude.{◌≡◌, ℕ, List, Option}
use Rattle.std.specs.Io.KnownBytes.{append_known}
use Rattle.lv_run_words.specs.lv_text.Lines.{lines_of}
use Rattle.lv_model.specs.declared.plant.Plant.{Plant}
use Rattle.lv_plant.specs.Standing.{at_start}
use Rattle.lv_plant.specs.Scripts.{script_text}

-- the texts of the replies to the lines of a script, one to each in order, were added: those of a plant that begins at its start
abbrev pub AddsScript : Plant → List ℕ → Option (List ℕ) → Option (List ℕ) → Type 0
AddsScript plant text before after = after ≡ append_known before (script_text (at_start plant) (lines_of text))
