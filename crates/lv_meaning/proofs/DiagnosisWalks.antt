-- The laws of walks, for the test and the reasons of a diagnosis.
use Rattle.std.proofs.Common.{◌≡◌, ◌≤◌, ℕ, Bool, true, false, List, [], ◌∷◌, length, take, filter, refl, arith}
use Rattle.std.specs.List.{list_all}
use Rattle.lv_base.specs.declared.rank.Rank.{Rank}
use Rattle.lv_base.specs.declared.search.Candidate.{Candidate}
use Rattle.lv_model.specs.declared.plant.Plant.{Plant}
use Rattle.lv_model.specs.declared.state.TrackedState.{TrackedState}
use Rattle.lv_boxes.specs.Walk.{first_of_each}
use Rattle.lv_boxes.specs.declared.outcome.Outcome.TheVariants.{Settled}
use Rattle.lv_boxes.proofs.WalkLemmas.{plain_exact, distinct_exact, with_ample}
use Rattle.lv_meaning.specs.declared.facts.Facts.{Facts}
use Rattle.lv_meaning.specs.Candidates.{candidates, is_possible_candidate, is_possible_rank}
use Rattle.lv_meaning.specs.Targets.{have_one_target, are_alike, answer}
use Rattle.lv_meaning.specs.Diagnosis.{reason_of, diagnosis_walk}
use Rattle.lv_meaning.proofs.Reasons.{is_sound}
use Rattle.lv_meaning.proofs.TargetLemmas.{targets_join}

all_suit : (ranks : List Rank) → list_all (λ (r : Rank). true) ranks ≡ true
all_suit [] = refl
all_suit (r ∷ rs) = all_suit rs

module _ (plant : Plant) (facts : Facts) (k budget : ℕ) (ranks : List Rank) where
  -- a settled walk lists the first k candidates that are possible
  pub diagnosis_exact : (diagnosis_walk plant facts k false budget ranks).outcome ≡ Settled
      → (diagnosis_walk plant facts k false budget ranks).listed ≡ take k (filter (is_possible_rank plant facts) ranks)
  diagnosis_exact settled =
      plain_exact (λ (c : Candidate). true) (is_possible_candidate plant facts) (reason_of plant facts) (is_sound plant facts) k budget ranks (all_suit ranks) settled

  -- with the flag, of these only such as lead to a state to which no earlier one leads
  pub distinct_diagnosis : (diagnosis_walk plant facts k true budget ranks).outcome ≡ Settled
      → (diagnosis_walk plant facts k true budget ranks).listed ≡ take k (first_of_each (have_one_target plant) (filter (is_possible_rank plant facts) ranks))
  distinct_diagnosis settled =
      distinct_exact (have_one_target plant) (targets_join plant) (λ (c : Candidate). true) (is_possible_candidate plant facts) (reason_of plant facts) (is_sound plant facts) k budget ranks
      (all_suit ranks) settled

  -- with a trial for each candidate it is settled
  pub diagnosis_ample : (distinct : Bool) → length ranks ≤ budget → (diagnosis_walk plant facts k distinct budget ranks).outcome ≡ Settled
  diagnosis_ample distinct few = with_ample (are_alike distinct plant) (is_possible_candidate plant facts) (reason_of plant facts) k budget ranks [] [] (omega (arith, few))

-- along all candidates it lists the answer
pub answers : (distinct : Bool) (plant : Plant) (facts : Facts) (k budget : ℕ) (tracked : List TrackedState)
    → (diagnosis_walk plant facts k distinct budget (candidates plant tracked)).outcome ≡ Settled
    → (diagnosis_walk plant facts k distinct budget (candidates plant tracked)).listed ≡ answer distinct k plant facts tracked
answers false plant facts k budget tracked settled = diagnosis_exact plant facts k budget (candidates plant tracked) settled
answers true plant facts k budget tracked settled = distinct_diagnosis plant facts k budget (candidates plant tracked) settled
