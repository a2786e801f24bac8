-- The values that the current recovery gives the controls, and what commanding them does.
use Rattle.std.specs.Prelude.{ℕ, List, [], ◌∷◌, map, Option, Some, None}
use Rattle.lv_base.specs.declared.rank.Rank.{Rank}
use Rattle.lv_model.specs.declared.plant.Plant.{Plant}
use Rattle.lv_boxes.specs.declared.outcome.Outcome.{Outcome}
use Rattle.lv_boxes.specs.declared.outcome.Outcome.TheVariants.{Settled, Unsettled}
use Rattle.lv_boxes.specs.Walk.{Walked}
use Rattle.lv_meaning.specs.Possible.{value}
use Rattle.lv_session_state.specs.declared.query.Query.{Query}
use Rattle.lv_session_state.specs.declared.query.Query.TheVariants.{Absent, Diagnosis, Recovery, Test, Window}
use Rattle.lv_session_state.specs.State.{SessionState, recovery}

-- those of the first command set listed, if there is one
abbrev pub first_values : List Rank → Option (List ℕ)
first_values [] = None
first_values (r ∷ rs) = Some r.choices

abbrev pub values_by : Outcome → List Rank → Option (List ℕ)
values_by Settled listed = first_values listed
values_by Unsettled listed = None

-- of a recovery that came to this: nothing where it isn't settled or found none
abbrev pub values_found : Walked → Option (List ℕ)
values_found w = values_by w.outcome w.listed

-- of the current query
abbrev pub recovery_values : Query → Plant → SessionState → Option (List ℕ)
recovery_values Absent plant state = None
recovery_values (Diagnosis sum) plant state = None
recovery_values (Recovery sum) plant state = values_found (recovery plant state sum)
recovery_values (Test x sum) plant state = None
recovery_values (Window steps sum) plant state = None

-- the controls are commanded to these values, and no query is current
abbrev pub applied : SessionState → List ℕ → SessionState
applied state values = record state { controls = map value values; query = Absent }
