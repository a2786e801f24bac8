-- The verdict on a certificate, and on bytes.
use Rattle.std.specs.Prelude.{◌≡◌, ℕ, Bool, true, false, List, Option, Some, None}
use Rattle.lv_model.specs.declared.plant.Plant.{Plant}
use Rattle.lv_cert.specs.declared.line.Line.{Line}
use Rattle.lv_cert.specs.Form.{IsCertificate, IsFaultAt}
use Rattle.lv_cert_laws.specs.lv_cert_meaning.Judging.{Judged as AllJudged, Judgement, comes_to, is_bad_at, judgement}
use Rattle.lv_cert_laws.specs.lv_cert_meaning.Laws.{AnswersRight}
use Rattle.lv_certcheck.specs.declared.check.Verdict.{Verdict}
use Rattle.lv_certcheck.specs.declared.check.Verdict.TheVariants.{Valid, Invalid}
use Rattle.lv_certcheck.specs.declared.judged.Judged.{Judged}

-- what was judged, as the definition has it
abbrev pub judged_of : Judged → AllJudged
judged_of j = record { stated = j.stated; space = j.space; listed = j.listed.items; excluded = j.excluded.items; own = j.block.own; aimed = j.aimed; before = j.before }

-- what a good line came to
abbrev pub came : Bool → Judged → Option AllJudged
came true j = Some (judged_of j)
came false j = None

abbrev pub verdict_of : Judgement → Verdict
verdict_of (comes_to j) = Valid
verdict_of (is_bad_at n) = Invalid n

-- the verdict on lines in their form and order
abbrev pub verdict : Plant → List Line → Verdict
verdict plant lines = verdict_of (judgement plant lines)

-- the verdict on bytes: that on the lines whose text they are, or else the first line out of form or order
pub data IsVerdictOn (plant : Plant) (bytes : List ℕ) (v : Verdict) : Type 0 where
  of_lines : (lines : List Line) → IsCertificate bytes lines → v ≡ verdict plant lines → IsVerdictOn plant bytes v
  of_form : (n : ℕ) → IsFaultAt bytes n → v ≡ Invalid n → IsVerdictOn plant bytes v

-- the text is that of lines which answer rightly what they state: a diagnosis lists the first candidates that are possible, as many as
-- its limit says, for its states and facts; a recovery gives the first command set that recovers, for its states, facts and goals, or
-- nothing exactly where none does
pub record ProvesItsAnswer (plant : Plant) (bytes : List ℕ) : Type 0 where
  pub lines : List Line
  pub text : IsCertificate bytes lines
  pub right : AnswersRight plant lines

-- what the verdict on some bytes is
pub record HasVerdictOn (plant : Plant) (bytes : List ℕ) : Type 0 where
  pub verdict : Verdict
  pub is : IsVerdictOn plant bytes verdict

-- every bytes have a verdict
abbrev pub VerdictExists : Type 0
VerdictExists = (plant : Plant) (bytes : List ℕ) → HasVerdictOn plant bytes

-- and just one
abbrev pub VerdictIsOne : Type 0
VerdictIsOne = (plant : Plant) (bytes : List ℕ) (v w : Verdict) → IsVerdictOn plant bytes v → IsVerdictOn plant bytes w → v ≡ w
