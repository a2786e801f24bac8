-- What a certificate states and what it answers, read off its lines, one by one and in their order. Nothing is judged here.
use Rattle.std.specs.Prelude.{ℕ, ◌+◌, ◌-◌, true, false, List, [], ◌∷◌, Option, Some, None, slice_get}
use Rattle.std.specs.List.{flat_map}
use Rattle.std.specs.Option.{option_map_or}
use Rattle.lv_model_names.specs.lv_base.declared.ids.ValId.{ValId}
use Rattle.lv_model_names.specs.lv_base.declared.rank.Rank.{Rank}
use Rattle.lv_model_names.specs.lv_base.Tree.{Tree}
use Rattle.lv_model_names.specs.lv_model.declared.plant.Plant.{Plant}
use Rattle.lv_model_names.specs.lv_model.declared.state.TrackedState.{TrackedState}
use Rattle.lv_search_zones.specs.lv_meaning.declared.facts.Observation.{Observation}
use Rattle.lv_search_zones.specs.lv_meaning.declared.facts.Facts.{Facts}
use Rattle.lv_search_zones.specs.lv_meaning.declared.aim.Aim.{Aim}
use Rattle.lv_search_zones.specs.lv_meaning.CandidateLaws.{moves_cost}
use Rattle.lv_search_zones.specs.lv_meaning.Commands.{command_rank}
use Rattle.lv_cert.specs.declared.line.Moment.TheVariants as moment
use Rattle.lv_cert.specs.declared.line.Head.TheVariants as head
use Rattle.lv_cert.specs.declared.line.Line.{Line}
use Rattle.lv_cert.specs.declared.line.Line.TheVariants as line
use Rattle.lv_cert_meaning.specs.Counting.{places_of, values_of}
use Rattle.lv_cert_meaning.specs.Stated.{Limit, goal_of}

-- the last of them, or else this; order admits one `k` and one `control` line
abbrev pub last_from : {X : Type 0} → X → List X → X
last_from x [] = x
last_from x (y ∷ ys) = last_from y ys

-- the line `k`: a number, and whether `distinct` stands behind it
abbrev pub limits_in : Line → List Limit
limits_in (line.Numbers head.Limit (k ∷ [])) = record { most = k; distinct = false } ∷ []
limits_in (line.Distinct k) = record { most = k; distinct = true } ∷ []
limits_in _ = []

abbrev pub limit_of : List Line → Limit
limit_of lines = last_from (record { most = 0; distinct = false }) (flat_map limits_in lines)

-- the lines `state`: a cost, and a mode of each part
abbrev pub states_in : Line → List TrackedState
states_in (line.Numbers head.State (cost ∷ modes)) = record { state = record { modes = values_of modes }; cost = record { 0 = cost } } ∷ []
states_in _ = []

abbrev pub states_of : List Line → List TrackedState
states_of lines = flat_map states_in lines

-- the line `control`: a value of each control
abbrev pub controls_in : Line → List (List ValId)
controls_in (line.Numbers head.Control ns) = values_of ns ∷ []
controls_in _ = []

-- the lines `fact`: an observable and its value, before the step or after it
abbrev pub seen : ℕ → ℕ → Observation
seen x v = record { var = record { 0 = x - 1 }; val = record { 0 = v - 1 } }

abbrev pub present_in : Line → List Observation
present_in (line.Fact moment.Now x v) = seen x v ∷ []
present_in _ = []

abbrev pub next_in : Line → List Observation
next_in (line.Fact moment.Next x v) = seen x v ∷ []
next_in _ = []

abbrev pub facts_of : List Line → Facts
facts_of lines = record { controls = last_from [] (flat_map controls_in lines); present = flat_map present_in lines; next = flat_map next_in lines }

-- the lines `goal`: what their texts say of the plant
abbrev pub one_or_none : Option Tree → List Tree
one_or_none None = []
one_or_none (Some goal) = goal ∷ []

abbrev pub goals_in : Plant → Line → List Tree
goals_in plant (line.Goal text) = one_or_none (goal_of plant text)
goals_in plant _ = []

abbrev pub aim_in : Plant → List Line → Aim
aim_in plant lines = record { tracked = states_of lines; present = flat_map present_in lines; goals = flat_map (goals_in plant) lines }

-- the lines `listed`: a state, and a move of each part, which cost what the state and the moves do
abbrev pub cost_at : List TrackedState → ℕ → ℕ
cost_at tracked place = option_map_or (λ (s : TrackedState). s.cost.0) (slice_get tracked place) 0

abbrev pub candidate_in : Plant → List TrackedState → ℕ → List ℕ → Rank
candidate_in plant tracked n moves =
    record { cost = record { 0 = cost_at tracked (n - 1) + moves_cost plant.types plant.parts (places_of moves) }; source = n - 1; choices = places_of moves }

-- what is answered: the candidates of the lines `listed`, or the command set of the line `recovery`
abbrev pub answers_in : Plant → List TrackedState → Line → List Rank
answers_in plant tracked (line.Numbers head.Listed (n ∷ moves)) = candidate_in plant tracked n moves ∷ []
answers_in plant tracked (line.Numbers head.Recovery ns) = command_rank plant (places_of ns) ∷ []
answers_in plant tracked _ = []

abbrev pub answer_of : Plant → List Line → List Rank
answer_of plant lines = flat_map (answers_in plant (states_of lines)) lines
