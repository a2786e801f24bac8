-- A query is on the walk of the test.
use Rattle.std.proofs.Common.{◌≡◌, Bool, List, [], refl, sym, subst, arith}
use Rattle.std.specs.Prelude.{None}
use Rattle.lv_base.specs.declared.ids.VarId.{VarId}
use Rattle.lv_base.specs.declared.rank.Rank.{Rank}
use Rattle.lv_base.specs.declared.search.Pair.{Pair}
use Rattle.lv_base.specs.declared.search.Candidate.{Candidate}
use Rattle.lv_model.specs.declared.plant.Plant.{Plant}
use Rattle.lv_meaning.specs.declared.aim.Aim.{Aim}
use Rattle.lv_meaning.specs.Commands.{command_sets}
use Rattle.lv_search.specs.Standing.{Standing, IsUnderWay}
use Rattle.lv_search_zones.proofs.CommandLemmas.{sets_suit}
use Rattle.lv_reconf.specs.Judging.{candidate_commands}
use Rattle.lv_reconf.specs.Tests.{candidate_tests, candidate_test_reason}
use Rattle.lv_reconf.specs.Testing.{TestQuestion, testing, IsTestQuery}
use Rattle.lv_reconf.specs.Trying.{Question, asking}

abbrev start : List Rank → Standing
start entries = record { k = 1; groups = None; listed = []; kept = []; left = entries }

started : (suits fits : Candidate → Bool) (reason : Candidate → List Pair) (entries : List Rank) → IsUnderWay suits fits reason entries (start entries)
started suits fits reason entries = record { walk = λ budget few. refl; trials = omega arith; k = refl; groups = refl; suit = λ suit. suit }

-- a query that has tried nothing
start_is_query : (plant : Plant) (aim : Aim) (x : VarId) → IsTestQuery (record { plant = plant; aim = aim; var = x; standing = start (command_sets plant) })
start_is_query plant aim x =
    record {
      under_way = started (candidate_commands plant) (candidate_tests plant aim x) (candidate_test_reason plant aim) (command_sets plant);
      suit = sets_suit plant;
      one = refl;
      plain = refl;
    }

pub new_is_query : (plant : Plant) (aim : Aim) (x : VarId) (s : Question) → s ≡ asking plant aim → (t : Standing) → t ≡ start (command_sets plant)
    → IsTestQuery (record { plant = s.plant; aim = s.aim; var = x; standing = t })
new_is_query plant aim x s setting t searched =
    subst (λ (q : Question). IsTestQuery (record { plant = q.plant; aim = q.aim; var = x; standing = t })) (sym setting)
    (subst (λ (v : Standing). IsTestQuery (record { plant = plant; aim = aim; var = x; standing = v })) (sym searched) (start_is_query plant aim x))

-- what a search says of its trial it says of the question
module _ (s t : TestQuestion) (is : t ≡ s) where
  pub of_question : (P : (Candidate → Bool) → (Candidate → Bool) → (Candidate → List Pair) → Type 0) → P (candidate_commands t.plant) (candidate_tests t.plant t.aim t.var) (candidate_test_reason t.plant t.aim)
      → P (candidate_commands s.plant) (candidate_tests s.plant s.aim s.var) (candidate_test_reason s.plant s.aim)
  of_question P holds = subst (λ (v : TestQuestion). P (candidate_commands v.plant) (candidate_tests v.plant v.aim v.var) (candidate_test_reason v.plant v.aim)) is holds
