-- What a call of the program comes to where nothing fails: a session that is served, a certificate that is judged, a text that
-- is written, or a fault.
use Rattle.std.specs.Prelude.{◌≡◌, ◌≢◌, ℕ, ◌<◌, ◌≤◌, Bool, true, false, List, length, take, Option, None, Some, Result, Ok, Err, IfSome, IsTrue}
use Rattle.std.specs.Io.KnownBytes.{append_known}
use Rattle.lv_base.specs.declared.limits.TheConstants.{SESSION_BYTES, CERTIFICATE_BYTES}
use Rattle.lv_io.specs.Whole.{AddsFront}
use Rattle.lv_model.specs.declared.plant.Plant.{Plant}
use Rattle.lv_reader.specs.declared.code.ModelCode.{ModelCode}
use Rattle.lv_checker.specs.Verdicts.{Verdict as ModelVerdict, accepted, refused, IsVerdict}
use Rattle.lv_certcheck.specs.Verdicts.{IsVerdictOn}
use Rattle.lv_certcheck.specs.declared.check.Verdict.{Verdict}
use Rattle.lv_serve.specs.Ends.{ended}
use Rattle.lv_serve.specs.Served.{within_limit}
use Rattle.lv_run.specs.Services.{quits, fits, AddsReplies, AddsFrontOfReplies}
use Rattle.lv_run_words.specs.declared.commands.Service.{Service}
use Rattle.lv_gen.specs.Series.{model_text}
use Rattle.lv_run.specs.Drives.{drive_text}
use Rattle.lv_run_words.specs.Words.{Said, runs, checks, prints, generates, drives}
use Rattle.lv_run_words.specs.declared.commands.Kind.{Kind}
use Rattle.lv_checker.specs.Standing.{IsCanonical}
use Rattle.lv_run.specs.Inputs.{model_told, made_text}
use Rattle.lv_run.specs.Faults.{status_of}
use Rattle.lv_run.specs.Judged.{verdict_line, verdict_end, verdict_status}
use Rattle.lv_run.specs.declared.status.Ended.{Ended}
use Rattle.lv_run.specs.declared.status.Ended.TheVariants.{Done as AllDone, Invalid as NotValid}
use Rattle.lv_run.specs.declared.status.Status.{Status}
use Rattle.lv_run.specs.declared.status.Status.TheVariants.{Done, WordsRefused, ModelRefused, ModelUnread, SecondUnread, OutputFailed, SecondTooLong, OutOfMemory, Invalid}
use Rattle.lv_run.specs.declared.fault.RunFault.{RunFault}
use Rattle.lv_run.specs.declared.fault.RunFault.TheVariants.{WordsRefused as BadWords, ModelRefused as BadModel, ModelUnread as NoModel, SessionUnread as NoSession, CertificateUnread as NoCertificate, OutputFailed as NoOutput, SessionTooLong as LongSession, CertificateTooLong as LongCertificate, OutOfMemory as NoMemory}

-- a session over an accepted model is served; of one too long the lines that end within the limit are; a certificate gets its
-- verdict for such a model, or is too long for one; a text is shown; or the call ends with a fault before that
pub data Expected : Type 0 where
  serves : Service → Plant → List ℕ → Expected
  overruns : Service → Plant → List ℕ → Expected
  judges : Verdict → Expected
  exceeds : Expected
  shows : List ℕ → Expected
  fails : RunFault → Expected

-- what is expected of a command, or of words that say none, over files by their names
pub data Expects (file : List ℕ → Option (List ℕ)) : Option Said → Expected → Type 0 where
  words_refused : Expects file None (fails BadWords)
  model_refused : {command : Said} {code : ModelCode} {line : ℕ} → (text : List ℕ)
      → model_told file command ≡ Some text → IsVerdict text (refused code line)
      → Expects file (Some command) (fails (BadModel code line))
  session_served : {service : Service} {model session served : List ℕ} {plant : Plant} → (text : List ℕ)
      → file model ≡ Some text → IsVerdict text (accepted plant) → file session ≡ Some served → fits service plant served ≡ true
      → Expects file (Some (runs service model session)) (serves service plant served)
  session_too_long : {service : Service} {model session long : List ℕ} {plant : Plant} → (text : List ℕ)
      → file model ≡ Some text → IsVerdict text (accepted plant) → file session ≡ Some long → fits service plant long ≡ false
      → Expects file (Some (runs service model session)) (overruns service plant long)
  certificate_judged : {model cert certificate : List ℕ} {plant : Plant} {verdict : Verdict} → (text : List ℕ)
      → file model ≡ Some text → IsVerdict text (accepted plant) → file cert ≡ Some certificate → length certificate ≤ CERTIFICATE_BYTES
      → IsVerdictOn plant certificate verdict
      → Expects file (Some (checks model cert)) (judges verdict)
  certificate_too_long : {model cert long : List ℕ} {plant : Plant} → (text : List ℕ)
      → file model ≡ Some text → IsVerdict text (accepted plant) → file cert ≡ Some long → CERTIFICATE_BYTES < length long
      → Expects file (Some (checks model cert)) exceeds
  model_printed : {model canonical : List ℕ} {plant : Plant} → (text : List ℕ)
      → file model ≡ Some text → IsVerdict text (accepted plant) → IsCanonical text canonical
      → Expects file (Some (prints model)) (shows canonical)
  text_made : {kind : Kind} {n : ℕ} → Expects file (Some (generates kind n)) (shows (made_text kind n))
  session_driven : {n : ℕ} {plant : Plant} → IsVerdict (model_text n) (accepted plant)
      → Expects file (Some (drives n)) (shows (drive_text plant n))

-- the status of a call in which nothing fails
abbrev pub status_expected : Expected → Status
status_expected (serves service plant session) = Done
status_expected (overruns service plant session) = SecondTooLong
status_expected (judges verdict) = verdict_status verdict
status_expected exceeds = SecondTooLong
status_expected (shows text) = Done
status_expected (fails fault) = status_of fault

-- the transcript due, the verdict or the text was added to the output, or nothing
abbrev pub AddsAll : Expected → Option (List ℕ) → Option (List ℕ) → Type 0
AddsAll (serves service plant session) before after = AddsReplies service plant session before after
AddsAll (overruns service plant session) before after = AddsReplies service plant (within_limit session) before after
AddsAll (judges verdict) before after = after ≡ append_known before (verdict_line verdict)
AddsAll exceeds before after = after ≡ before
AddsAll (shows text) before after = after ≡ append_known before text
AddsAll (fails fault) before after = after ≡ before

-- a front of it was
abbrev pub AddsSome : Expected → Option (List ℕ) → Option (List ℕ) → Type 0
AddsSome (serves service plant session) before after = AddsFrontOfReplies service plant session before after
AddsSome (overruns service plant session) before after = AddsFrontOfReplies service plant (within_limit session) before after
AddsSome (judges verdict) before after = AddsFront (verdict_line verdict) before after
AddsSome exceeds before after = after ≡ before
AddsSome (shows text) before after = AddsFront text before after
AddsSome (fails fault) before after = after ≡ before

-- so many bytes of the session were read, no `quit` was accepted among the lines that ended in them, and the transcript of these was
-- added
pub record AddsLines (service : Service) (plant : Plant) (session : List ℕ) (before after : Option (List ℕ)) : Type 0 where
  pub count : ℕ
  pub within : count ≤ SESSION_BYTES
  pub goes_on : quits service plant (take count session) ≡ false
  pub written : AddsReplies service plant (ended (take count session)) before after

-- a front was added of the transcript that is due, of the session or of its lines that end within the limit
pub record AddsDueFront (service : Service) (plant : Plant) (session : List ℕ) (before after : Option (List ℕ)) : Type 0 where
  pub of_all : fits service plant session ≡ true → AddsFrontOfReplies service plant session before after
  pub of_lines : fits service plant session ≡ false → AddsFrontOfReplies service plant (within_limit session) before after

-- what was added where the second file was not read to its end: of a session the transcript of the lines that ended in what was
-- read, of a check nothing
abbrev pub AddsRead : Expected → Option (List ℕ) → Option (List ℕ) → Type 0
AddsRead (serves service plant session) before after = AddsLines service plant session before after
AddsRead (overruns service plant session) before after = AddsLines service plant session before after
AddsRead (judges verdict) before after = after ≡ before
AddsRead exceeds before after = after ≡ before
AddsRead (shows text) before after = ⊥
AddsRead (fails fault) before after = ⊥

-- what serving a text that is told came to
abbrev pub ServesTold : Service → Plant → List ℕ → Option (List ℕ) → Option (List ℕ) → Result Ended RunFault → Type 0
ServesTold service plant session before after (Ok AllDone) = (fits service plant session ≡ true) × AddsReplies service plant session before after
ServesTold service plant session before after (Ok NotValid) = ⊥
ServesTold service plant session before after (Err BadWords) = ⊥
ServesTold service plant session before after (Err (BadModel code line)) = ⊥
ServesTold service plant session before after (Err NoModel) = ⊥
ServesTold service plant session before after (Err NoSession) = AddsLines service plant session before after
ServesTold service plant session before after (Err NoCertificate) = ⊥
ServesTold service plant session before after (Err NoOutput) = AddsDueFront service plant session before after
ServesTold service plant session before after (Err LongSession) = (fits service plant session ≡ false) × AddsReplies service plant (within_limit session) before after
ServesTold service plant session before after (Err LongCertificate) = ⊥
ServesTold service plant session before after (Err NoMemory) = AddsDueFront service plant session before after

-- a call that ended with this status kept to what was expected: with a status that no fault of shelf or sink brings, it is
-- the one expected; the words are judged before the model is opened, and the model before the second file; where a session was not
-- read to its end, the replies to the lines that ended in what was read were written, and where a certificate was not, nothing;
-- where a write failed or memory was wanting, a front of what was expected was
abbrev pub Meets : Expected → Option (List ℕ) → Option (List ℕ) → Status → Type 0
Meets e before after Done = (status_expected e ≡ Done) × AddsAll e before after
Meets e before after WordsRefused = status_expected e ≡ WordsRefused
Meets e before after ModelRefused = status_expected e ≡ ModelRefused
Meets e before after ModelUnread = status_expected e ≢ WordsRefused
Meets e before after SecondUnread = AddsRead e before after
Meets e before after OutputFailed = AddsSome e before after
Meets e before after SecondTooLong = (status_expected e ≡ SecondTooLong) × AddsAll e before after
Meets e before after OutOfMemory = AddsSome e before after
Meets e before after Invalid = (status_expected e ≡ Invalid) × AddsAll e before after

-- the words say a command, and the text of its model has this verdict, where the shelf tells it
pub record HasVerdict (file : List ℕ → Option (List ℕ)) (said : Option Said) (verdict : ModelVerdict) : Type 0 where
  pub command : Said
  pub asked : said ≡ Some command
  pub is : IfSome (model_told file command) (λ text. IsVerdict text verdict)

pub record IsRefused (file : List ℕ → Option (List ℕ)) (said : Option Said) : Type 0 where
  pub code : ModelCode
  pub line : ℕ
  pub verdict : HasVerdict file said (refused code line)

-- the words say a command, and the text of its model gives one, where the shelf tells it
pub record HasModel (bytes : List ℕ) : Type 0 where
  pub plant : Plant
  pub verdict : IsVerdict bytes (accepted plant)

pub record IsAccepted (file : List ℕ → Option (List ℕ)) (said : Option Said) : Type 0 where
  pub command : Said
  pub asked : said ≡ Some command
  pub is : IfSome (model_told file command) HasModel

-- the text gives a model, and the verdict on the certificate for it is one that ends a check so
pub record IsJudged (text certificate : List ℕ) (ended : Ended) : Type 0 where
  pub plant : Plant
  pub accepts : IsVerdict text (accepted plant)
  pub verdict : Verdict
  pub is : IsVerdictOn plant certificate verdict
  pub ends : ended ≡ verdict_end verdict

-- a command may end so without a fault: a check by the verdict on its certificate, where the shelf tells that and the model,
-- and any other as done
abbrev pub EndsSo : (List ℕ → Option (List ℕ)) → Said → Ended → Type 0
EndsSo file (runs service model session) ended = ended ≡ AllDone
EndsSo file (checks model cert) ended = IfSome (file model) (λ text. IfSome (file cert) (λ certificate. IsJudged text certificate ended))
EndsSo file (prints model) ended = ended ≡ AllDone
EndsSo file (generates kind n) ended = ended ≡ AllDone
EndsSo file (drives n) ended = ended ≡ AllDone

-- the words say a command that may end so
pub record HasEnded (file : List ℕ → Option (List ℕ)) (said : Option Said) (ended : Ended) : Type 0 where
  pub command : Said
  pub asked : said ≡ Some command
  pub is : EndsSo file command ended

-- the words say a check
abbrev pub is_check : Option Said → Bool
is_check None = false
is_check (Some (runs service model session)) = false
is_check (Some (checks model cert)) = true
is_check (Some (prints model)) = false
is_check (Some (generates kind n)) = false
is_check (Some (drives n)) = false

-- the words say a run
abbrev pub is_run : Option Said → Bool
is_run None = false
is_run (Some (runs service model session)) = true
is_run (Some (checks model cert)) = false
is_run (Some (prints model)) = false
is_run (Some (generates kind n)) = false
is_run (Some (drives n)) = false

-- what is known of the words and the model from the status alone: the model was accepted where the second file was opened, and
-- the certificate of a check has a bad line where that is told
abbrev pub Follows : (List ℕ → Option (List ℕ)) → Option Said → Status → Type 0
Follows file said Done = IsAccepted file said
Follows file said WordsRefused = said ≡ None
Follows file said ModelRefused = IsRefused file said
Follows file said ModelUnread = said ≢ None
Follows file said SecondUnread = IsAccepted file said
Follows file said OutputFailed = Unit {0}
Follows file said SecondTooLong = IsAccepted file said
Follows file said OutOfMemory = Unit {0}
Follows file said Invalid = IsAccepted file said × HasEnded file said NotValid

-- a run that no fault ended did so as its command may; one that ended with a refused model by the code and the line of its
-- text's verdict; and one that ended with its second file by the fault of its command's
abbrev pub TellsVerdict : (List ℕ → Option (List ℕ)) → Option Said → Result Ended RunFault → Type 0
TellsVerdict file said (Ok ended) = HasEnded file said ended
TellsVerdict file said (Err BadWords) = Unit {0}
TellsVerdict file said (Err (BadModel code line)) = HasVerdict file said (refused code line)
TellsVerdict file said (Err NoModel) = Unit {0}
TellsVerdict file said (Err NoSession) = IsTrue (is_run said)
TellsVerdict file said (Err NoCertificate) = IsTrue (is_check said)
TellsVerdict file said (Err NoOutput) = Unit {0}
TellsVerdict file said (Err LongSession) = IsTrue (is_run said)
TellsVerdict file said (Err LongCertificate) = IsTrue (is_check said)
TellsVerdict file said (Err NoMemory) = Unit {0}

-- with this status of these words nothing was written to the output: a check writes only when all is read
abbrev pub is_silent : Option Said → Status → Bool
is_silent said Done = false
is_silent said WordsRefused = true
is_silent said ModelRefused = true
is_silent said ModelUnread = true
is_silent said SecondUnread = is_check said
is_silent said OutputFailed = false
is_silent said SecondTooLong = is_check said
is_silent said OutOfMemory = false
is_silent said Invalid = false

-- a status that the counts of the shelf are as before with
abbrev pub keeps_shelf : Status → Bool
keeps_shelf Done = true
keeps_shelf WordsRefused = true
keeps_shelf ModelRefused = true
keeps_shelf ModelUnread = false
keeps_shelf SecondUnread = false
keeps_shelf OutputFailed = false
keeps_shelf SecondTooLong = true
keeps_shelf OutOfMemory = false
keeps_shelf Invalid = true
