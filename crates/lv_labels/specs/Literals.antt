-- The literals of facts and of a state's modes.
use Rattle.std.specs.Prelude.{ℕ, true, List, [], ◌∷◌, ◌++◌, map, Option, Some, None}
use Rattle.lv_base.specs.declared.ids.Lit.{Lit}
use Rattle.lv_base.specs.declared.ids.ValId.{ValId}
use Rattle.lv_base.specs.declared.ids.VarId.{VarId}
use Rattle.lv_model.specs.declared.plant.Plant.{Plant}
use Rattle.lv_model.specs.declared.plant.Part.{Part}
use Rattle.lv_model.specs.declared.state.State.{State}
use Rattle.lv_meaning.specs.declared.facts.Facts.{Facts}
use Rattle.lv_meaning.specs.declared.facts.Observation.{Observation}
use Rattle.lv_meaning.specs.Facts.{now_facts}
use Rattle.lv_compile.specs.Booleans.{Booleans, value_literal, booleans_now, booleans_next}
use Rattle.lv_reply.specs.declared.labels.Moment.{Moment}
use Rattle.lv_reply.specs.declared.labels.Moment.TheVariants.{Now, Next}
use Rattle.lv_labels.specs.declared.values.Values.{Values}
use Rattle.lv_labels.specs.Values.{literal_at}

abbrev pub values_of : Plant → Values
values_of plant = record { before = booleans_now plant; after = booleans_next plant }

-- the literal that the variable has the value
abbrev pub value_at : Plant → Moment → ℕ → ℕ → Lit
value_at plant moment x v = literal_at (values_of plant) moment x v

abbrev pub observed_at : Plant → Moment → Observation → Lit
observed_at plant moment o = value_at plant moment o.var.0 o.val.0

-- the controls' values and the present observations before the step, the next observations after it
abbrev pub fact_literals : Plant → Facts → List Lit
fact_literals plant facts = map (observed_at plant Now) (now_facts plant facts) ++ map (observed_at plant Next) facts.next

-- each of these variables has its value
abbrev pub literals_of : Booleans → List VarId → List ValId → List Lit
literals_of b xs [] = []
literals_of b [] (v ∷ vs) = []
literals_of b (x ∷ xs) (v ∷ vs) = value_literal b x.0 v.0 true ∷ literals_of b xs vs

-- the mode of each part
abbrev pub mode_variables : Plant → List VarId
mode_variables plant = map (λ (p : Part). p.first) plant.parts

-- each part is in its mode before the step
abbrev pub mode_literals : Plant → State → List Lit
mode_literals plant state = literals_of (booleans_now plant) (mode_variables plant) state.modes

-- of the state, where one is asked about
abbrev pub state_literals : Plant → Option State → List Lit
state_literals plant None = []
state_literals plant (Some state) = mode_literals plant state
