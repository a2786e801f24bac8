-- The text of labels.
use Rattle.std.specs.Prelude.{ℕ, List, ◌++◌, length, codes, decimal}
use Rattle.std.specs.List.{flat_map}
use Rattle.lv_model.specs.declared.plant.Plant.{Plant}
use Rattle.lv_reply.specs.declared.labels.Label.{Label}
use Rattle.lv_reply.specs.declared.labels.Moment.{Moment}
use Rattle.lv_reply.specs.declared.labels.Moment.TheVariants.{Now, Next}
use Rattle.lv_reply.specs.Variables.{equation}

abbrev pub moment_word : Moment → List ℕ
moment_word Now = codes "now"
moment_word Next = codes "next"

-- `now X = V` or `next X = V`
abbrev pub label_line : Plant → Label → List ℕ
label_line plant l = moment_word l.moment ++ codes " " ++ equation plant (codes " = ") l.var.0 l.val.0 ++ codes "\n"

-- `labels N` and a line for each label
unfoldable pub labels_text : Plant → List Label → List ℕ
labels_text plant labels = codes "labels " ++ decimal (length labels) ++ codes "\n" ++ flat_map (label_line plant) labels
