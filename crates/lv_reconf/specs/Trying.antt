-- What a trial of command sets keeps, and what it asks.
use Rattle.std.specs.Prelude.{ℕ, Bool, true, false, not, List, slice_get, take}
use Rattle.std.specs.List.{list_any, prefix_len}
use Rattle.std.specs.Option.{option_map_or}
use Rattle.lv_base.specs.declared.search.Pair.{Pair}
use Rattle.lv_clauses.specs.ClauseMap.{ClauseMap}
use Rattle.lv_base.specs.Tree.{Tree, truth_of}
use Rattle.lv_model.specs.declared.plant.Plant.{Plant}
use Rattle.lv_model.specs.declared.state.TrackedState.{TrackedState}
use Rattle.lv_meaning.specs.declared.facts.Observation.{Observation}
use Rattle.lv_meaning.specs.declared.aim.Aim.{Aim}
use Rattle.lv_meaning.specs.Recovers.{some_nominal_step, reaches, can_miss}
use Rattle.lv_meaning.specs.Ranges.{AimFits}
use Rattle.lv_reconf.specs.Narrowing.{Asks}

-- the plant, the aim, and the place of the tracked state that is looked at
pub record ReachingValue : Type 0 where
  pub plant : Plant
  pub aim : Aim
  pub at : ℕ

abbrev pub looking_at : Plant → Aim → ℕ → ReachingValue
looking_at plant aim at = record { plant = plant; aim = aim; at = at }

-- the aim is the plant's, and the solver's clauses ask for a nominal step that meets what is observed
pub record IsSetting (plant : Plant) (aim : Aim) (set : ClauseMap) : Type 0 where
  pub fits : AimFits plant aim
  pub asks : Asks plant aim.present (λ b. true) set

-- from the tracked state that is looked at, if there is one, some nominal step with these values meets all goals
abbrev pub reaches_at : ReachingValue → List Pair → Bool
reaches_at r pairs = option_map_or (λ (s : TrackedState). reaches r.plant r.aim s.state pairs) (slice_get r.aim.tracked r.at) false

-- from the state some nominal step with these values ends with the goal false
abbrev pub misses_goal : Plant → List Observation → List Pair → Tree → TrackedState → Bool
misses_goal plant present pairs goal s = some_nominal_step plant present s.state pairs (λ b. not (truth_of b 0 goal))

-- from some of the states some nominal step ends with some goal false
abbrev pub some_missed : Plant → List Observation → List Pair → List Tree → List TrackedState → Bool
some_missed plant present pairs goals states = list_any (λ (g : Tree). list_any (misses_goal plant present pairs g) states) goals

-- the plant and the aim
pub record Question : Type 0 where
  pub plant : Plant
  pub aim : Aim

abbrev pub asking : Plant → Aim → Question
asking plant aim = record { plant = plant; aim = aim }

-- the values of the command set, each at its control's slot, and the tracked states up to the first from which they don't reach the
-- goals
abbrev pub reaching_states : Plant → Aim → List Pair → ℕ
reaching_states plant aim pairs = prefix_len (λ (s : TrackedState). reaches plant aim s.state pairs) aim.tracked

-- from some of the first tracked states the goals can be missed
abbrev pub some_can_miss : Plant → Aim → ℕ → List Pair → Bool
some_can_miss plant aim count pairs = list_any (λ (s : TrackedState). can_miss plant aim s.state pairs) (take count aim.tracked)
