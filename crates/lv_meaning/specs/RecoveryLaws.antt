-- What command sets, recoveries and their reasons are, in the subject's own words.
use Rattle.std.specs.Prelude.{◌≡◌, ◌≤◌, ℕ, true, false, List, [], ◌∷◌, ◌++◌, length, take, filter, map, Contains}
use Rattle.lv_base.specs.declared.rank.Rank.{Rank}
use Rattle.lv_base.specs.declared.search.Pair.{Pair}
use Rattle.lv_base.specs.Choices.{contains_all, pairs_of, slots_rise}
use Rattle.lv_base.specs.Rank.{ranks_before}
use Rattle.lv_model.specs.declared.plant.Plant.{Plant}
use Rattle.lv_model.specs.declared.state.State.{State}
use Rattle.lv_model.specs.declared.state.TrackedState.{TrackedState}
use Rattle.lv_model.specs.Lists.{sizes, move_counts, controls}
use Rattle.lv_model.specs.Meaning.{is_step, is_nominal}
use Rattle.lv_boxes.specs.declared.outcome.Outcome.TheVariants.{Settled}
use Rattle.lv_boxes.specs.Ranked.{rises}
use Rattle.lv_boxes.specs.WalkLaws.{each_is_needed}
use Rattle.lv_meaning.specs.declared.facts.Observation.{Observation}
use Rattle.lv_meaning.specs.Facts.{meets}
use Rattle.lv_meaning.specs.Possible.{value, move_number}
use Rattle.lv_meaning.specs.PossibleLaws.{are_below}
use Rattle.lv_meaning.specs.declared.aim.Aim.{Aim}
use Rattle.lv_meaning.specs.Recovers.{has_modes, has_controls, meets_goals, reaches, recovers}
use Rattle.lv_meaning.specs.Commands.{is_command_set, commands_cost, command_sets}
use Rattle.lv_meaning.specs.Recovery.{reason_from, command_reason, rank_recovers, recovery_walk}

-- a value for each control, and what these cost together
pub record IsCommandSet (plant : Plant) (r : Rank) : Type 0 where
  pub values : is_command_set plant r.choices ≡ true
  pub cost : r.cost.0 ≡ commands_cost plant (controls plant) r.choices
  pub source : r.source ≡ 0

-- exactly these are listed, each once, by cost and then by values
pub record CommandSetsAreAll : Type 0 where
  pub rising : (plant : Plant) → rises (command_sets plant) ≡ true
  pub listed : (plant : Plant) (r : Rank) → IsCommandSet plant r → Contains (command_sets plant) r
  pub are : (plant : Plant) (r : Rank) → Contains (command_sets plant) r → IsCommandSet plant r

-- a value for each variable before the step and after it and a move for each part: a step of the system that begins in the state, with
-- these values of some controls and what is observed now, and in which no part fails
pub record NominalStep (plant : Plant) (present : List Observation) (s : State) (pairs : List Pair) : Type 0 where
  pub before : List ℕ
  pub after : List ℕ
  pub moves : List ℕ
  pub before_below : are_below (sizes plant) before ≡ true
  pub after_below : are_below (sizes plant) after ≡ true
  pub moves_below : are_below (move_counts plant) moves ≡ true
  pub modes : has_modes plant.parts s.modes (map value before) ≡ true
  pub commanded : has_controls (controls plant) (map value before) pairs ≡ true
  pub observed : meets (map value before) present ≡ true
  pub step : is_step plant (map value before) (map value after) (map move_number moves) ≡ true
  pub nominal : is_nominal plant (map move_number moves) ≡ true

-- from the state there is a nominal step with these values of the controls, and each ends with all goals true
pub record LeadsToGoals (plant : Plant) (aim : Aim) (u : List ℕ) (s : State) : Type 0 where
  pub step : NominalStep plant aim.present s (pairs_of u)
  pub goals : (each : NominalStep plant aim.present s (pairs_of u)) → meets_goals aim.goals (map value each.after) ≡ true

-- a command set recovers exactly where it leads to the goals from every tracked state
pub record RecoversReads : Type 0 where
  pub leads : (plant : Plant) (aim : Aim) (u : List ℕ) → recovers plant aim u ≡ true → (s : TrackedState) → Contains aim.tracked s → LeadsToGoals plant aim u s.state
  pub suffices : (plant : Plant) (aim : Aim) (u : List ℕ) → ((s : TrackedState) → Contains aim.tracked s → LeadsToGoals plant aim u s.state) → recovers plant aim u ≡ true

-- what reaches the goals from a state does so where some of its values are left free
pub record ReachesParts : Type 0 where
  pub among : (plant : Plant) (aim : Aim) (s : State) (part whole : List Pair) → ((p : Pair) → Contains part p → Contains whole p)
      → reaches plant aim s whole ≡ true → reaches plant aim s part ≡ true
  pub one_left_out : (plant : Plant) (aim : Aim) (s : State) (before after : List Pair) (left_out : Pair)
      → reaches plant aim s (before ++ left_out ∷ after) ≡ true → reaches plant aim s (before ++ after) ≡ true

-- the reason of a command set that doesn't recover is a part of it and of none that recovers; from a state from which it doesn't
-- reach the goals, its reason doesn't either, and would with any of its values left free
pub record CommandReasonIsSound : Type 0 where
  pub part : (plant : Plant) (aim : Aim) (u : List ℕ) → contains_all u (command_reason plant aim u) ≡ true
  pub rising : (plant : Plant) (aim : Aim) (u : List ℕ) → slots_rise (command_reason plant aim u) ≡ true
  pub apart : (plant : Plant) (aim : Aim) (u v : List ℕ) → is_command_set plant u ≡ true → is_command_set plant v ≡ true
      → recovers plant aim u ≡ false → recovers plant aim v ≡ true → contains_all v (command_reason plant aim u) ≡ false
  pub blocked : (plant : Plant) (aim : Aim) (u : List ℕ) (s : State) → reaches plant aim s (pairs_of u) ≡ false → reaches plant aim s (reason_from plant aim u s) ≡ false
  pub needed : (plant : Plant) (aim : Aim) (u : List ℕ) (s : State) → reaches plant aim s (pairs_of u) ≡ false
      → each_is_needed (reaches plant aim s) [] (reason_from plant aim u s) ≡ true

-- a command set that recovers, and none that ranks before it does
pub record IsRecovery (plant : Plant) (aim : Aim) (r : Rank) : Type 0 where
  pub set : IsCommandSet plant r
  pub sure : recovers plant aim r.choices ≡ true
  pub first : (other : Rank) → IsCommandSet plant other → recovers plant aim other.choices ≡ true → ranks_before other r ≡ false

-- a settled walk of a recovery lists the first command set that recovers, and nothing exactly where none does; with a trial for each
-- command set it is settled
pub record RecoveryWalkIsExact : Type 0 where
  pub exact : (plant : Plant) (aim : Aim) (budget : ℕ) → (recovery_walk plant aim budget).outcome ≡ Settled
      → (recovery_walk plant aim budget).listed ≡ take 1 (filter (rank_recovers plant aim) (command_sets plant))
  pub found : (plant : Plant) (aim : Aim) (budget : ℕ) (r : Rank) → (recovery_walk plant aim budget).outcome ≡ Settled
      → Contains (recovery_walk plant aim budget).listed r → IsRecovery plant aim r
  pub none : (plant : Plant) (aim : Aim) (budget : ℕ) → (recovery_walk plant aim budget).outcome ≡ Settled → (recovery_walk plant aim budget).listed ≡ []
      → (u : List ℕ) → is_command_set plant u ≡ true → recovers plant aim u ≡ false
  pub ample : (plant : Plant) (aim : Aim) (budget : ℕ) → length (command_sets plant) ≤ budget → (recovery_walk plant aim budget).outcome ≡ Settled
