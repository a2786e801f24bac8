-- What it is to test a variable, and what a settled test is, in the subject's own words.
use Rattle.std.specs.Prelude.{◌≡◌, ◌≤◌, ◌<◌, ℕ, true, false, List, [], length, take, filter, map, slice_get, Some, Contains}
use Rattle.lv_base.specs.declared.ids.VarId.{VarId}
use Rattle.lv_base.specs.declared.rank.Rank.{Rank}
use Rattle.lv_base.specs.Choices.{pairs_of}
use Rattle.lv_base.specs.Rank.{ranks_before}
use Rattle.lv_base.specs.Tree.{number_of}
use Rattle.lv_model.specs.declared.plant.Plant.{Plant}
use Rattle.lv_model.specs.declared.state.State.{State}
use Rattle.lv_model.specs.declared.state.TrackedState.{TrackedState}
use Rattle.lv_model.specs.Lists.{variable_count}
use Rattle.lv_boxes.specs.declared.outcome.Outcome.TheVariants.{Settled}
use Rattle.lv_meaning.specs.declared.aim.Aim.{Aim}
use Rattle.lv_meaning.specs.declared.facts.Observation.{Observation}
use Rattle.lv_meaning.specs.Possible.{value}
use Rattle.lv_meaning.specs.Commands.{is_command_set, command_sets}
use Rattle.lv_meaning.specs.RecoveryLaws.{IsCommandSet, NominalStep}
use Rattle.lv_reconf.specs.Tests.{tests, rank_tests, test_walk}

-- after nominal steps from the two states with the values the variable never has one value
abbrev pub TellsApart : Plant → List Observation → VarId → List ℕ → State → State → Type 0
TellsApart plant present x u s t = (one : NominalStep plant present s (pairs_of u)) (other : NominalStep plant present t (pairs_of u))
    → number_of (map value one.after) x.0 ≡ number_of (map value other.after) x.0 → ⊥

-- from each tracked state there is a nominal step with the values, and the variable tells any two of the states apart
pub record Tests (plant : Plant) (aim : Aim) (x : VarId) (u : List ℕ) : Type 0 where
  pub step : (s : TrackedState) → Contains aim.tracked s → NominalStep plant aim.present s.state (pairs_of u)
  pub apart : (i j : ℕ) (s t : TrackedState) → i < j → slice_get aim.tracked i ≡ Some s → slice_get aim.tracked j ≡ Some t
      → TellsApart plant aim.present x u s.state t.state

-- values for all controls test a variable exactly where they do so
pub record TestsRead : Type 0 where
  pub tell : (plant : Plant) (aim : Aim) (x : VarId) (u : List ℕ) → x.0 < variable_count plant → tests plant aim x u ≡ true → Tests plant aim x u
  pub suffice : (plant : Plant) (aim : Aim) (x : VarId) (u : List ℕ) → Tests plant aim x u → tests plant aim x u ≡ true

-- a command set that tests the variable, and none that ranks before it does
pub record IsTest (plant : Plant) (aim : Aim) (x : VarId) (r : Rank) : Type 0 where
  pub set : IsCommandSet plant r
  pub sure : tests plant aim x r.choices ≡ true
  pub first : (other : Rank) → IsCommandSet plant other → tests plant aim x other.choices ≡ true → ranks_before other r ≡ false

-- no command set tests the variable
abbrev pub NoneTests : Plant → Aim → VarId → Type 0
NoneTests plant aim x = (u : List ℕ) → is_command_set plant u ≡ true → tests plant aim x u ≡ false

-- a settled walk of a test lists the first command set that tests the variable, and nothing exactly where none does; with a trial for
-- each command set it is settled
pub record TestWalkIsExact : Type 0 where
  pub exact : (plant : Plant) (aim : Aim) (x : VarId) (budget : ℕ) → (test_walk plant aim x budget).outcome ≡ Settled
      → (test_walk plant aim x budget).listed ≡ take 1 (filter (rank_tests plant aim x) (command_sets plant))
  pub found : (plant : Plant) (aim : Aim) (x : VarId) (budget : ℕ) (r : Rank) → (test_walk plant aim x budget).outcome ≡ Settled
      → Contains (test_walk plant aim x budget).listed r → IsTest plant aim x r
  pub none : (plant : Plant) (aim : Aim) (x : VarId) (budget : ℕ) → (test_walk plant aim x budget).outcome ≡ Settled → (test_walk plant aim x budget).listed ≡ []
      → NoneTests plant aim x
  pub ample : (plant : Plant) (aim : Aim) (x : VarId) (budget : ℕ) → length (command_sets plant) ≤ budget → (test_walk plant aim x budget).outcome ≡ Settled
