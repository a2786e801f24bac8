-- Which values are needed where they lead to no such step as is asked for.
use Rattle.std.specs.Prelude.{◌≡◌, Bool, true, false, List, Option, Some, None}
use Rattle.lv_base.specs.declared.ids.ValId.{ValId}
use Rattle.lv_base.specs.declared.search.Pair.{Pair}
use Rattle.lv_clauses.specs.Marks.{Marks, is_marked}
use Rattle.lv_model.specs.declared.plant.Plant.{Plant}
use Rattle.lv_model.specs.declared.state.State.{State}
use Rattle.lv_meaning.specs.declared.facts.Observation.{Observation}
use Rattle.lv_meaning.specs.Recovers.{some_nominal_step}
use Rattle.lv_reconf.specs.Assuming.{control_literal, marked_controls}

-- without marks there is such a step; with marks there is none with the values that are marked
abbrev pub RefutesSteps : Plant → List Observation → (List ValId → Bool) → State → List Pair → Option Marks → Type 0
RefutesSteps plant present ends s pairs None = some_nominal_step plant present s pairs ends ≡ true
RefutesSteps plant present ends s pairs (Some marks) = some_nominal_step plant present s (marked_controls plant marks pairs) ends ≡ false

-- the value's literal is marked
abbrev pub needs : Plant → Marks → Pair → Bool
needs plant marks p = is_marked marks (control_literal plant p)
