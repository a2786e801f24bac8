-- Certificates of an answer: valid ones that state its question and give it.
use Rattle.std.specs.Prelude.{◌≡◌, ◌≤◌, ◌+◌, ℕ, Bool, true, List, All, IsTrue, length, map, Some}
use Rattle.std.specs.List.{list_all}
use Rattle.lv_model_names.specs.lv_base.declared.limits.TheConstants.{TRACKED, OBSERVATIONS, TRACKED_COST, GOALS}
use Rattle.lv_model_names.specs.lv_base.declared.rank.Rank.{Rank}
use Rattle.lv_model_names.specs.lv_base.declared.search.Pair.{Pair}
use Rattle.lv_model_names.specs.lv_base.Tree.{Tree}
use Rattle.lv_model_names.specs.lv_model.declared.plant.Plant.{Plant}
use Rattle.lv_model_names.specs.lv_model.declared.state.TrackedState.{TrackedState}
use Rattle.lv_search_zones.specs.lv_boxes.declared.outcome.Outcome.TheVariants.{Settled}
use Rattle.lv_search_zones.specs.lv_meaning.declared.facts.Observation.{Observation}
use Rattle.lv_search_zones.specs.lv_meaning.declared.facts.Facts.{Facts}
use Rattle.lv_search_zones.specs.lv_meaning.Facts.{FactsFit, FactsInRange}
use Rattle.lv_search_zones.specs.lv_meaning.Candidates.{candidates}
use Rattle.lv_search_zones.specs.lv_meaning.Diagnosis.{diagnosis_walk}
use Rattle.lv_search_zones.specs.lv_meaning.declared.aim.Aim.{Aim}
use Rattle.lv_search_zones.specs.lv_meaning.Ranges.{StateFits, AimFits}
use Rattle.lv_search_zones.specs.lv_meaning.Recovery.{recovery_walk}
use Rattle.lv_model_names.specs.Names.{classes, is_observable}
use Rattle.lv_cert.specs.declared.line.Question.TheVariants.{Diagnosis, Recovery}
use Rattle.lv_cert.specs.declared.line.Line.{Line}
use Rattle.lv_cert.specs.Words.{is_word}
use Rattle.lv_cert.specs.Form.{is_formed}
use Rattle.lv_cert_meaning.specs.Stated.{goal_of}
use Rattle.lv_cert_meaning.specs.Judging.{Judged, question_of}
use Rattle.lv_cert_meaning.specs.Laws.{aim_of, IsValid}

-- valid lines that state these states, facts and limit, ask for distinct targets or not, and list these candidates
pub record CertifiesDiagnosis (plant : Plant) (tracked : List TrackedState) (facts : Facts) (k : ℕ) (distinct : Bool) (listed : List Rank) (lines : List Line) : Type 0 where
  pub judged : Judged
  pub question : question_of lines ≡ Diagnosis
  pub valid : IsValid plant lines judged
  pub limit : judged.stated.k ≡ k
  pub distinct_is : judged.stated.distinct ≡ distinct
  pub tracked_are : judged.stated.tracked ≡ tracked
  pub facts_are : judged.stated.facts ≡ facts
  pub listed_are : judged.listed ≡ listed

-- valid lines that state what is asked of a recovery, and give this one, or none
pub record CertifiesRecovery (plant : Plant) (aim : Aim) (listed : List Rank) (lines : List Line) : Type 0 where
  pub judged : Judged
  pub question : question_of lines ≡ Recovery
  pub valid : IsValid plant lines judged
  pub aim_is : aim_of judged.stated ≡ aim
  pub listed_are : judged.listed ≡ listed

-- a tracked state of the plant, whose cost is within its limit
pub record StateStands (plant : Plant) (s : TrackedState) : Type 0 where
  pub fits : StateFits plant s
  pub cost : s.cost.0 ≤ TRACKED_COST

-- what was observed is an observable
pub record IsSeen (plant : Plant) (o : Observation) : Type 0 where
  pub observable : IsTrue (is_observable (classes plant) o.var.0)

-- few states of the plant, and at least one
pub record AreStates (plant : Plant) (tracked : List TrackedState) : Type 0 where
  pub some : 1 ≤ length tracked
  pub few : length tracked ≤ TRACKED
  pub stand : All (StateStands plant) tracked

-- facts that a session over the plant can hold
pub record AreFacts (plant : Plant) (facts : Facts) : Type 0 where
  pub fit : FactsFit plant facts
  pub in_range : FactsInRange plant facts
  pub present : All (IsSeen plant) facts.present
  pub next : All (IsSeen plant) facts.next
  pub few : length facts.present + length facts.next ≤ OBSERVATIONS

-- a diagnosis settled with this answer, within some budget
pub record IsSettledDiagnosis (plant : Plant) (tracked : List TrackedState) (facts : Facts) (k : ℕ) (distinct : Bool) (listed : List Rank) (kept : List (List Pair)) : Type 0 where
  pub budget : ℕ
  pub settled : diagnosis_walk plant facts k distinct budget (candidates plant tracked) ≡ record { outcome = Settled; listed = listed; kept = kept }

-- what a recovery in a session is asked: at least one goal, and few
pub record IsAsked (plant : Plant) (aim : Aim) : Type 0 where
  pub states : AreStates plant aim.tracked
  pub fits : AimFits plant aim
  pub seen : All (IsSeen plant) aim.present
  pub few : length aim.present ≤ OBSERVATIONS
  pub some : 1 ≤ length aim.goals
  pub goals : length aim.goals ≤ GOALS

-- a recovery settled with this answer, within some budget
pub record IsSettledRecovery (plant : Plant) (aim : Aim) (listed : List Rank) (kept : List (List Pair)) : Type 0 where
  pub budget : ℕ
  pub settled : recovery_walk plant aim budget ≡ record { outcome = Settled; listed = listed; kept = kept }

-- each is one word, and the canonical text of the goal at its place
pub record AreTexts (plant : Plant) (texts : List (List ℕ)) (goals : List Tree) : Type 0 where
  pub words : list_all is_word texts ≡ true
  pub read : map (goal_of plant) texts ≡ map Some goals

-- where the plant's name is one word, each line has its form, so that their text reads as them
abbrev pub AreFormed : Plant → List Line → Type 0
AreFormed plant lines = is_word plant.name ≡ true → list_all is_formed lines ≡ true
