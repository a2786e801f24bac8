-- What the numbers of a probe are, in the subject's words.
use Rattle.std.specs.Prelude.{◌≡◌, ◌≤◌, ◌<◌, ℕ, false, List, ◌∷◌, ◌++◌, length, map, Contains, Some, None}
use Rattle.lv_model.specs.declared.plant.Plant.{Plant}
use Rattle.lv_model.specs.declared.state.TrackedState.{TrackedState}
use Rattle.lv_meaning.specs.declared.facts.Observation.{Observation}
use Rattle.lv_meaning.specs.declared.facts.Facts.{Facts}
use Rattle.lv_meaning.specs.lv_boxes.declared.outcome.Outcome.TheVariants.{Settled}
use Rattle.lv_meaning.specs.lv_boxes.Walk.{candidate_of}
use Rattle.lv_meaning.specs.Candidates.{candidates}
use Rattle.lv_meaning.specs.Diagnosis.{diagnosis_walk}
use Rattle.lv_ident.specs.Probing.{with_next}
use Rattle.lv_base.specs.declared.ids.VarId.{VarId}
use Rattle.lv_reply.specs.declared.probes.Probed.{Probed}
use Rattle.lv_probe.specs.Probing.{number_with, largest, best}

-- where a settled diagnosis, one that may list candidates of one target, lists fewer than k, as many of the listed are possible with one observation more as a settled diagnosis with
-- that observation lists
abbrev pub NumbersAreListed : Type 0
NumbersAreListed = (plant : Plant) (facts : Facts) (tracked : List TrackedState) (k budget other : ℕ) (o : Observation)
    → (diagnosis_walk plant facts k false budget (candidates plant tracked)).outcome ≡ Settled
    → length (diagnosis_walk plant facts k false budget (candidates plant tracked)).listed < k
    → (diagnosis_walk plant (with_next facts o) k false other (candidates plant tracked)).outcome ≡ Settled
    → number_with plant facts (map candidate_of (diagnosis_walk plant facts k false budget (candidates plant tracked)).listed) o
    ≡ length (diagnosis_walk plant (with_next facts o) k false other (candidates plant tracked)).listed

-- what is best looked at has its largest number below the number listed; no observable has a smaller one, and those before it have
-- larger ones
pub record IsBest (listed : ℕ) (observables : List Probed) (x : VarId) : Type 0 where
  pub front : List Probed
  pub back : List Probed
  pub numbers : Probed
  pub splits : observables ≡ front ++ numbers ∷ back
  pub var : numbers.var ≡ x
  pub below : largest numbers.numbers < listed
  pub least : (other : Probed) → Contains observables other → largest numbers.numbers ≤ largest other.numbers
  pub first : (earlier : Probed) → Contains front earlier → largest numbers.numbers < largest earlier.numbers

pub record BestIsLeast : Type 0 where
  pub found : (listed : ℕ) (observables : List Probed) (x : VarId) → best listed observables ≡ Some x → IsBest listed observables x
  pub none : (listed : ℕ) (observables : List Probed) → best listed observables ≡ None → (p : Probed) → Contains observables p → listed ≤ largest p.numbers
