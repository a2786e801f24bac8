-- The premises of the top call's promises, and what it tells.
use Rattle.std.specs.Prelude.{◌≡◌, ℕ, ◌≤◌, ◌⊎◌, true, List, length, Option, Some, Result}
use Rattle.std.specs.Io.KnownBytes.{append_known}
use Rattle.lv_base.specs.declared.limits.TheConstants.{CERTIFICATE_BYTES}
use Rattle.lv_io.specs.Outside.{Rose}
use Rattle.lv_io.specs.declared.Role.{Role}
use Rattle.lv_run.specs.Services.{fits}
use Rattle.lv_model.specs.declared.plant.Plant.{Plant}
use Rattle.lv_checker.specs.Verdicts.{IsVerdict, accepted}
use Rattle.lv_certcheck.specs.Verdicts.{IsVerdictOn, ProvesItsAnswer}
use Rattle.lv_certcheck.specs.declared.check.Verdict.{Verdict}
use Rattle.lv_certcheck.specs.declared.check.Verdict.TheVariants.{Valid as IsValid}
use Rattle.lv_gen.specs.Series.{model_text}
use Rattle.lv_run.specs.Drives.{drive_text}
use Rattle.lv_run_words.specs.Words.{Said, runs, checks, prints, generates, drives, command_of}
use Rattle.lv_run_words.specs.declared.commands.Kind.{Kind}
use Rattle.lv_run_words.specs.declared.commands.Service.{Service}
use Rattle.lv_run.specs.Expected.{Expected, Expects, Meets, TellsVerdict}
use Rattle.lv_checker.specs.Standing.{IsCanonical}
use Rattle.lv_run.specs.Inputs.{made_text}
use Rattle.lv_run.specs.Faults.{ended_status}
use Rattle.lv_run.specs.Judged.{verdict_line, verdict_status}
use Rattle.lv_run.specs.Telling.{Tells}
use Rattle.lv_run.specs.declared.status.Ended.{Ended}
use Rattle.lv_run.specs.declared.fault.RunFault.{RunFault}
use Rattle.lv_run.specs.declared.status.Status.{Status}
use Rattle.lv_run.specs.declared.status.Status.TheVariants.{OutOfMemory}

-- the words ask for a run of this session, of sessions in lanes or of a plant's script, over this model, both of which the files hold: the
-- model's text is accepted, and the session is no longer than its limit, or a `quit` that is accepted, where it is one session, ends within it
pub record Asks (service : Service) (file : List ℕ → Option (List ℕ)) (words : List (List ℕ)) (plant : Plant) (session : List ℕ) : Type 0 where
  pub model_name : List ℕ
  pub session_name : List ℕ
  pub text : List ℕ
  pub asked : command_of words ≡ Some (runs service model_name session_name)
  pub model_told : file model_name ≡ Some text
  pub verdict : IsVerdict text (accepted plant)
  pub session_told : file session_name ≡ Some session
  pub within : fits service plant session ≡ true

-- the words ask for a text: the canonical text of a model that the files hold, a text made for a number, or the summary of the
-- session made for a number over the model made for it; the model's text is accepted
pub data AsksForText (file : List ℕ → Option (List ℕ)) (words : List (List ℕ)) : List ℕ → Type 0 where
  to_print : {canonical model : List ℕ} {plant : Plant} → (text : List ℕ) → command_of words ≡ Some (prints model)
      → file model ≡ Some text → IsVerdict text (accepted plant) → IsCanonical text canonical
      → AsksForText file words canonical
  to_generate : {kind : Kind} {n : ℕ} → command_of words ≡ Some (generates kind n)
      → AsksForText file words (made_text kind n)
  to_drive : {n : ℕ} {plant : Plant} → command_of words ≡ Some (drives n) → IsVerdict (model_text n) (accepted plant)
      → AsksForText file words (drive_text plant n)

-- the words ask for a check of this certificate over this model, both of which the files hold: the model's text is accepted, and
-- the certificate is no longer than its limit
pub record AsksToCheck (file : List ℕ → Option (List ℕ)) (words : List (List ℕ)) (plant : Plant) (certificate : List ℕ) : Type 0 where
  pub model_name : List ℕ
  pub cert_name : List ℕ
  pub text : List ℕ
  pub asked : command_of words ≡ Some (checks model_name cert_name)
  pub model_told : file model_name ≡ Some text
  pub accepts : IsVerdict text (accepted plant)
  pub cert_told : file cert_name ≡ Some certificate
  pub within : length certificate ≤ CERTIFICATE_BYTES

-- the verdict on the certificate for the plant is told: `valid` with status 0 where no line is bad, and else `invalid LINE` with the
-- first bad line and status 9; and a valid one proves its answer
pub record TellsItsVerdict (plant : Plant) (certificate : List ℕ) (before after : Option (List ℕ)) (result : Status) : Type 0 where
  pub verdict : Verdict
  pub is : IsVerdictOn plant certificate verdict
  pub status_is : result ≡ verdict_status verdict
  pub written : after ≡ append_known before (verdict_line verdict)
  pub proves : verdict ≡ IsValid → ProvesItsAnswer plant certificate

-- the call ends with the verdict on the certificate for the plant, or memory was wanting
pub record EndsWithVerdict (plant : Plant) (certificate : List ℕ) (result : Status) : Type 0 where
  pub verdict : Verdict
  pub is : IsVerdictOn plant certificate verdict
  pub ends : (result ≡ verdict_status verdict) ⊎ (result ≡ OutOfMemory)

-- no count of the shelf, of the output and of standard error rose
pub record HasNoFault (shelf shelf_after : Role → ℕ) (out out_after err err_after : ℕ) : Type 0 where
  pub of_shelf : (r : Role) → ¬ Rose (shelf r) (shelf_after r)
  pub of_output : ¬ Rose out out_after
  pub of_error : ¬ Rose err err_after

-- what the run came to before it was told, which kept to what was expected and to what its command may end with, and how that
-- was told: a refused model by the code and the line of its text's verdict
pub record TellsOwnEnd (file : List ℕ → Option (List ℕ)) (said : Option Said) (out out_after err err_after : Option (List ℕ)) (result : Status) : Type 0 where
  pub ended : Result Ended RunFault
  pub meets : (e : Expected) → Expects file said e → Meets e out out_after (ended_status ended)
  pub verdict : TellsVerdict file said ended
  pub told : Tells ended err err_after result
