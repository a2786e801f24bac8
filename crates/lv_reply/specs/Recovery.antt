-- The text of a recovery or a test.
use Rattle.std.specs.Prelude.{ℕ, nat_eq, if◌then◌else◌, List, [], ◌∷◌, ◌++◌, codes, decimal}
use Rattle.lv_base.specs.declared.ids.VarId.{VarId}
use Rattle.lv_base.specs.declared.rank.Rank.{Rank}
use Rattle.lv_model.specs.declared.plant.Plant.{Plant}
use Rattle.lv_model.specs.Lists.{controls}
use Rattle.lv_reply.specs.Pieces.{joined}
use Rattle.lv_reply.specs.Variables.{setting_text}

-- what a control shows that has this value: nothing where it rests, as it does at its first value
abbrev pub shown_setting : Plant → VarId → ℕ → List (List ℕ)
shown_setting plant control value = if nat_eq value 0 then [] else setting_text plant control.0 value ∷ []

-- what the controls show, in order
abbrev pub shown_settings : Plant → List VarId → List ℕ → List (List ℕ)
shown_settings plant [] values = []
shown_settings plant (c ∷ cs) [] = []
shown_settings plant (c ∷ cs) (v ∷ vs) = shown_setting plant c v ++ shown_settings plant cs vs

-- `recovery cost C: SETS`, or `test cost C: SETS`
unfoldable pub commands_text : List ℕ → Plant → Rank → List ℕ
commands_text answer plant r =
    answer ++ codes " cost " ++ decimal r.cost.0 ++ codes ": " ++ joined (shown_settings plant (controls plant) r.choices) ++ codes "\n"

-- `unsettled trials T`
unfoldable pub undecided_text : ℕ → List ℕ
undecided_text trials = codes "unsettled trials " ++ decimal trials ++ codes "\n"
