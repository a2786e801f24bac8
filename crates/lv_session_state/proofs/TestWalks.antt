-- A settled walk of a test lists the first command set that tests the variable.
use Rattle.std.proofs.Common.{◌≡◌, ℕ, ◌≤◌, Bool, true, false, List, [], ◌∷◌, take, filter, length, Contains, cond, inl, inr, refl, sym, subst, ◌∙◌, ap, arith}
use Rattle.std.proofs.lemmas.Bool.{and_parts}
use Rattle.std.specs.List.{list_all}
use Rattle.lv_base.specs.declared.ids.VarId.{VarId}
use Rattle.lv_base.specs.declared.rank.Rank.{Rank}
use Rattle.lv_base.specs.declared.search.Candidate.{Candidate}
use Rattle.lv_base.specs.Rank.{ranks_before}
use Rattle.lv_model.specs.declared.plant.Plant.{Plant}
use Rattle.lv_boxes.specs.declared.outcome.Outcome.TheVariants.{Settled}
use Rattle.lv_boxes.specs.WalkLaws.{IsSound}
use Rattle.lv_boxes.specs.Ranked.{rises}
use Rattle.lv_boxes.specs.Walk.{none_alike}
use Rattle.lv_boxes.proofs.RankedLemmas.{not_before_itself, not_both_before}
use Rattle.lv_boxes.proofs.WalkLemmas.{plain_exact, with_ample}
use Rattle.lv_meaning.proofs.Among.{Among, among, all_among}
use Rattle.lv_meaning.proofs.NominalSteps.{each_passes}
use Rattle.lv_meaning.proofs.RecoveryWalks.{IsFirst, is_first, none_passes}
use Rattle.lv_meaning.proofs.CommandSets.{sets_rise, set_among, among_is_set}
use Rattle.lv_meaning.specs.declared.aim.Aim.{Aim}
use Rattle.lv_meaning.specs.Commands.{is_command_set, command_rank, command_sets}
use Rattle.lv_reconf.specs.LawfulTests.{reason_apart}
use Rattle.lv_reconf.specs.Tests.{candidate_tests, candidate_test_reason, rank_tests, test_walk}
use Rattle.lv_session_state.specs.TestLaws.{IsTest, NoneTests}

module _ (plant : Plant) (aim : Aim) (x : VarId) (budget : ℕ) where
  reasons_sound : IsSound (λ (c : Candidate). is_command_set plant c.choices) (candidate_tests plant aim x) (candidate_test_reason plant aim)
  reasons_sound = record { apart = λ c d one other cannot can. reason_apart plant aim x c.choices d.choices one other cannot can }

  all_suit : list_all (λ (r : Rank). is_command_set plant r.choices) (command_sets plant) ≡ true
  all_suit = each_passes (λ (r : Rank). is_command_set plant r.choices) (command_sets plant) (λ r a. (among_is_set plant r a).values)

  pub test_exact : (test_walk plant aim x budget).outcome ≡ Settled → (test_walk plant aim x budget).listed ≡ take 1 (filter (rank_tests plant aim x) (command_sets plant))
  test_exact settled =
      plain_exact (λ (c : Candidate). is_command_set plant c.choices) (candidate_tests plant aim x) (candidate_test_reason plant aim) reasons_sound 1 budget (command_sets plant)
      all_suit settled

  pub test_found : (r : Rank) → (test_walk plant aim x budget).outcome ≡ Settled → Contains (test_walk plant aim x budget).listed r → IsTest plant aim x r
  test_found r settled there =
      let f : IsFirst (rank_tests plant aim x) (command_sets plant) r =
      is_first (rank_tests plant aim x) (command_sets plant) r (sets_rise plant)
      (subst (λ (rs : List Rank). Among r rs) (test_exact settled) (among (test_walk plant aim x budget).listed r there))
      in
      record { set = among_is_set plant r f.listed; sure = f.passes; first = λ other is sure. f.first other (set_among plant other is) sure }

  pub test_none : (test_walk plant aim x budget).outcome ≡ Settled → (test_walk plant aim x budget).listed ≡ [] → NoneTests plant aim x
  test_none settled nothing = λ u values.
      none_passes (rank_tests plant aim x) (command_sets plant) (sym (test_exact settled) ∙ nothing) (command_rank plant u)
      (set_among plant (command_rank plant u) (record { values = values; cost = refl; source = refl }))

  pub test_ample : length (command_sets plant) ≤ budget → (test_walk plant aim x budget).outcome ≡ Settled
  test_ample few = with_ample none_alike (candidate_tests plant aim x) (candidate_test_reason plant aim) 1 budget (command_sets plant) [] [] (omega (arith, few))
