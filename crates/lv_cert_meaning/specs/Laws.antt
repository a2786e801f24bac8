-- What a valid certificate proves.
use Rattle.std.specs.Prelude.{◌≡◌, true, false, List, take, filter, Some, None}
use Rattle.lv_model_names.specs.lv_base.declared.ids.Cost.{Cost}
use Rattle.lv_model_names.specs.lv_base.declared.rank.Rank.{Rank}
use Rattle.lv_model_names.specs.lv_base.declared.search.Candidate.{Candidate}
use Rattle.lv_model_names.specs.lv_model.declared.plant.Plant.{Plant}
use Rattle.lv_model_names.specs.lv_model.declared.state.TrackedState.{TrackedState}
use Rattle.lv_model_names.specs.lv_model.WellFormed.{is_well_formed}
use Rattle.lv_search_zones.specs.lv_meaning.Targets.{answer}
use Rattle.lv_search_zones.specs.lv_meaning.declared.aim.Aim.{Aim}
use Rattle.lv_search_zones.specs.lv_meaning.declared.facts.Facts.{Facts}
use Rattle.lv_search_zones.specs.lv_meaning.Commands.{command_sets}
use Rattle.lv_search_zones.specs.lv_meaning.Recovery.{rank_recovers}
use Rattle.lv_search_zones.specs.lv_boxes.Members.{ZoneValue, is_member}
use Rattle.lv_search_zones.specs.lv_boxes.RankedMembers.{IsLeastRank}
use Rattle.lv_cert.specs.declared.line.Question.TheVariants.{Diagnosis, Recovery}
use Rattle.lv_cert.specs.declared.line.Line.{Line}
use Rattle.lv_cert.specs.declared.order.Place.TheVariants.{Start, Done}
use Rattle.lv_cert.specs.Order.{place_behind}
use Rattle.lv_cert_meaning.specs.Stated.{Limit, Stated, stated_limit}
use Rattle.lv_cert_meaning.specs.Space.{least_rank}
use Rattle.lv_cert_meaning.specs.Contents.{limit_of, states_of, facts_of, aim_in, answer_of}
use Rattle.lv_cert_meaning.specs.Judging.{Judged, comes_to, question_of, judgement}

-- what a recovery is asked to do
abbrev pub aim_of : Stated → Aim
aim_of s = record { tracked = s.tracked; present = s.facts.present; goals = s.goals }

-- lines in order of which none is bad
pub record IsValid (plant : Plant) (lines : List Line) (j : Judged) : Type 0 where
  pub order : place_behind Start lines ≡ Some Done
  pub good : judgement plant lines ≡ comes_to j

-- what a valid certificate of a diagnosis lists are the first k candidates that are possible, for the limit, the states and the facts
-- that it states; where it asks for distinct targets, of those alone to whose state no possible candidate of lower rank leads
abbrev pub ValidDiagnosisProvesItsAnswer : Type 0
ValidDiagnosisProvesItsAnswer =
    (plant : Plant) → is_well_formed plant ≡ true → (lines : List Line) (j : Judged) → IsValid plant lines j → question_of lines ≡ Diagnosis
    → j.listed ≡ answer j.stated.distinct j.stated.k plant j.stated.facts j.stated.tracked

-- what one of a recovery gives is the first command set that recovers, for the states, the facts and the goals that it states, and
-- nothing exactly where none does
abbrev pub ValidRecoveryProvesItsAnswer : Type 0
ValidRecoveryProvesItsAnswer =
    (plant : Plant) → is_well_formed plant ≡ true → (lines : List Line) (j : Judged) → IsValid plant lines j → question_of lines ≡ Recovery
    → j.listed ≡ take 1 (filter (rank_recovers plant (aim_of j.stated)) (command_sets plant))

-- whoever wrote it
pub record ValidCertificateProvesItsAnswer : Type 0 where
  pub diagnosis : ValidDiagnosisProvesItsAnswer
  pub recovery : ValidRecoveryProvesItsAnswer

-- what was judged of lines states and answers what they do
pub record IsReadOff (plant : Plant) (lines : List Line) (j : Judged) : Type 0 where
  pub limit : question_of lines ≡ Diagnosis → stated_limit j.stated ≡ limit_of lines
  pub facts : j.stated.facts ≡ facts_of lines
  pub aim : aim_of j.stated ≡ aim_in plant lines
  pub answer : j.listed ≡ answer_of plant lines

-- whatever their order
abbrev pub JudgedIsReadOff : Type 0
JudgedIsReadOff = (plant : Plant) (lines : List Line) (j : Judged) → judgement plant lines ≡ comes_to j → IsReadOff plant lines j

-- the answer of a diagnosis with this limit
abbrev pub answer_within : Limit → Plant → Facts → List TrackedState → List Rank
answer_within limit plant facts tracked = answer limit.distinct limit.most plant facts tracked

-- what the lines answer is right, for what they state: of a diagnosis the first candidates that are possible, as many as its limit
-- says, with distinct targets where it asks for these; of a recovery the first command set that recovers, or nothing exactly where none does
pub record AnswersRight (plant : Plant) (lines : List Line) : Type 0 where
  pub diagnosis : question_of lines ≡ Diagnosis → answer_of plant lines ≡ answer_within (limit_of lines) plant (facts_of lines) (states_of lines)
  pub recovery : question_of lines ≡ Recovery → answer_of plant lines ≡ take 1 (filter (rank_recovers plant (aim_in plant lines)) (command_sets plant))

-- in words of the lines alone
abbrev pub ValidLinesAnswerRight : Type 0
ValidLinesAnswerRight = (plant : Plant) → is_well_formed plant ≡ true → (lines : List Line) (j : Judged) → IsValid plant lines j → AnswersRight plant lines

-- the least rank of a zone is that of its least member, and there is one exactly where the zone has members
pub record LeastRankIsOfLeastMember : Type 0 where
  pub least : (slots : List (List Cost)) (zone : ZoneValue) (r : Rank) → least_rank slots zone ≡ Some r → IsLeastRank slots zone r
  pub empty : (slots : List (List Cost)) (zone : ZoneValue) → least_rank slots zone ≡ None → (candidate : Candidate) → is_member slots zone candidate ≡ false
