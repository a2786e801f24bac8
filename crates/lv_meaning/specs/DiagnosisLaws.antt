-- What the reasons and the walk of a diagnosis promise.
use Rattle.std.specs.Prelude.{◌≡◌, ◌≤◌, ℕ, Bool, true, false, List, [], length, take, filter}
use Rattle.lv_base.specs.declared.rank.Rank.{Rank}
use Rattle.lv_base.specs.declared.search.Candidate.{Candidate}
use Rattle.lv_base.specs.Choices.{contains_all}
use Rattle.lv_model.specs.declared.plant.Plant.{Plant}
use Rattle.lv_model.specs.declared.state.TrackedState.{TrackedState}
use Rattle.lv_boxes.specs.Walk.{first_of_each}
use Rattle.lv_boxes.specs.declared.outcome.Outcome.TheVariants.{Settled}
use Rattle.lv_boxes.specs.WalkLaws.{each_is_needed}
use Rattle.lv_meaning.specs.declared.facts.Facts.{Facts}
use Rattle.lv_meaning.specs.Possible.{is_possible}
use Rattle.lv_meaning.specs.Candidates.{candidates, is_possible_candidate, is_possible_rank}
use Rattle.lv_meaning.specs.Targets.{have_one_target, answer}
use Rattle.lv_meaning.specs.Diagnosis.{reason_of, diagnosis_walk}

-- the reason of an impossible candidate is not possible, is a part of it and of no possible candidate, and none of its choices can be
-- left out: without it the others are possible
pub record ReasonIsMinimal : Type 0 where
  pub impossible : (plant : Plant) (facts : Facts) (c : Candidate) → is_possible_candidate plant facts c ≡ false → is_possible plant facts (reason_of plant facts c) ≡ false
  pub part : (plant : Plant) (facts : Facts) (c : Candidate) → contains_all c.choices (reason_of plant facts c) ≡ true
  pub apart : (plant : Plant) (facts : Facts) (c d : Candidate) → is_possible_candidate plant facts c ≡ false → is_possible_candidate plant facts d ≡ true
      → contains_all d.choices (reason_of plant facts c) ≡ false
  pub needed : (plant : Plant) (facts : Facts) (c : Candidate) → each_is_needed (is_possible plant facts) [] (reason_of plant facts c) ≡ true

-- a settled walk of a diagnosis lists the first k candidates that are possible, or all if fewer are; with the flag, only such of them
-- as lead to a state to which no possible one before them leads; along all candidates of the tracked states it lists the answer; with
-- a trial for each candidate it is settled
pub record DiagnosisWalkIsExact : Type 0 where
  pub exact : (plant : Plant) (facts : Facts) (k budget : ℕ) (ranks : List Rank)
      → (diagnosis_walk plant facts k false budget ranks).outcome ≡ Settled → (diagnosis_walk plant facts k false budget ranks).listed ≡ take k (filter (is_possible_rank plant facts) ranks)
  pub distinct : (plant : Plant) (facts : Facts) (k budget : ℕ) (ranks : List Rank) → (diagnosis_walk plant facts k true budget ranks).outcome ≡ Settled
      → (diagnosis_walk plant facts k true budget ranks).listed ≡ take k (first_of_each (have_one_target plant) (filter (is_possible_rank plant facts) ranks))
  pub lists : (flag : Bool) (plant : Plant) (facts : Facts) (k budget : ℕ) (tracked : List TrackedState)
      → (diagnosis_walk plant facts k flag budget (candidates plant tracked)).outcome ≡ Settled
      → (diagnosis_walk plant facts k flag budget (candidates plant tracked)).listed ≡ answer flag k plant facts tracked
  pub ample : (flag : Bool) (plant : Plant) (facts : Facts) (k budget : ℕ) (ranks : List Rank) → length ranks ≤ budget → (diagnosis_walk plant facts k flag budget ranks).outcome ≡ Settled
