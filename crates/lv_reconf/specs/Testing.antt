-- What a trial of command sets that are to test a variable keeps, and what is found of one.
use Rattle.std.specs.Prelude.{◌≡◌, ℕ, true, false, None, List, [], slice_index_or}
use Rattle.lv_base.specs.declared.ids.VarId.{VarId}
use Rattle.lv_base.specs.Choices.{pairs_of}
use Rattle.lv_model.specs.declared.plant.Plant.{Plant}
use Rattle.lv_model.specs.Lists.{sizes}
use Rattle.lv_meaning.specs.lv_boxes.Reason.{reduced}
use Rattle.lv_meaning.specs.declared.aim.Aim.{Aim}
use Rattle.lv_meaning.specs.Commands.{command_sets}
use Rattle.lv_search.specs.Standing.{Standing, all_suit, IsUnderWay}
use Rattle.lv_reconf.specs.declared.judged.Judged.{Judged}
use Rattle.lv_reconf.specs.declared.judged.Judged.TheVariants.{Recovers, Misses, Stops}
use Rattle.lv_reconf.specs.Judging.{candidate_commands}
use Rattle.lv_reconf.specs.Tests.{tests, test_reason, candidate_tests, candidate_test_reason}
use Rattle.lv_reconf.specs.Trying.{looking_at, reaches_at}

-- the plant, the aim, of which the goals play no part, and the variable
pub record TestQuestion : Type 0 where
  pub plant : Plant
  pub aim : Aim
  pub var : VarId

abbrev pub testing : Plant → Aim → VarId → TestQuestion
testing plant aim x = record { plant = plant; aim = aim; var = x }

-- nothing is asked of goals, and the variable has so many values
pub record IsTesting (plant : Plant) (aim : Aim) (x : VarId) (size : ℕ) : Type 0 where
  pub none : aim.goals ≡ []
  pub size_is : size ≡ slice_index_or (sizes plant) x.0 0

-- that the values test the variable, that the reason why they don't is all of them, or that it is what is left of them at this tracked
-- state
abbrev pub JudgesTest : Plant → Aim → VarId → List ℕ → Judged → Type 0
JudgesTest plant aim x u Recovers = tests plant aim x u ≡ true
JudgesTest plant aim x u Misses = (tests plant aim x u ≡ false) × (test_reason plant aim u ≡ pairs_of u)
JudgesTest plant aim x u (Stops at) = (tests plant aim x u ≡ false) × (test_reason plant aim u ≡ reduced (reaches_at (looking_at plant aim at)) [] (pairs_of u))

-- a query for a test as contracts see it: the question, and where the search stands
pub record TestValue : Type 0 where
  pub plant : Plant
  pub aim : Aim
  pub var : VarId
  pub standing : Standing

-- the query is on the walk of a test, to one command set
pub record IsTestQuery (q : TestValue) : Type 0 where
  pub under_way : IsUnderWay (candidate_commands q.plant) (candidate_tests q.plant q.aim q.var) (candidate_test_reason q.plant q.aim) (command_sets q.plant) q.standing
  pub suit : all_suit (candidate_commands q.plant) q.standing ≡ true
  pub one : q.standing.k ≡ 1
  pub plain : q.standing.groups ≡ None
