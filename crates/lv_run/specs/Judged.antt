-- What judging a certificate comes to: the line that tells the verdict, how the run ends, and what was written.
use Rattle.std.specs.Prelude.{◌≡◌, ℕ, ◌<◌, ◌≤◌, List, ◌++◌, length, Option, Result, Ok, Err, codes, decimal}
use Rattle.std.specs.Io.KnownBytes.{append_known}
use Rattle.lv_base.specs.declared.limits.TheConstants.{CERTIFICATE_BYTES}
use Rattle.lv_io.specs.Whole.{AddsFront}
use Rattle.lv_model.specs.declared.plant.Plant.{Plant}
use Rattle.lv_certcheck.specs.Verdicts.{IsVerdictOn}
use Rattle.lv_certcheck.specs.declared.check.Verdict.{Verdict}
use Rattle.lv_certcheck.specs.declared.check.Verdict.TheVariants.{Valid as IsValid, Invalid as IsInvalid}
use Rattle.lv_run.specs.Statuses.{status_ended}
use Rattle.lv_run.specs.declared.status.Ended.{Ended}
use Rattle.lv_run.specs.declared.status.Ended.TheVariants.{Done as AllDone, Invalid as NotValid}
use Rattle.lv_run.specs.declared.status.Status.{Status}
use Rattle.lv_run.specs.declared.fault.RunFault.{RunFault}
use Rattle.lv_run.specs.declared.fault.RunFault.TheVariants.{WordsRefused as BadWords, ModelRefused as BadModel, ModelUnread as NoModel, SessionUnread as NoSession, CertificateUnread as NoCertificate, OutputFailed as NoOutput, SessionTooLong as LongSession, CertificateTooLong as LongCertificate, OutOfMemory as NoMemory}

-- the verdict as a line: `valid`, or `invalid LINE` with the first bad line
abbrev pub verdict_line : Verdict → List ℕ
verdict_line IsValid = codes "valid\n"
verdict_line (IsInvalid line) = codes "invalid " ++ decimal line ++ codes "\n"

-- how a check ends with this verdict
abbrev pub verdict_end : Verdict → Ended
verdict_end IsValid = AllDone
verdict_end (IsInvalid line) = NotValid

-- the status of a check with this verdict
abbrev pub verdict_status : Verdict → Status
verdict_status verdict = status_ended (verdict_end verdict)

-- the certificate is within its limit, and the verdict on it for the plant was added as a line, and is how the run ends
pub record TellsJudgement (plant : Plant) (certificate : List ℕ) (before after : Option (List ℕ)) (ended : Ended) : Type 0 where
  pub within : length certificate ≤ CERTIFICATE_BYTES
  pub verdict : Verdict
  pub is : IsVerdictOn plant certificate verdict
  pub ends : ended ≡ verdict_end verdict
  pub written : after ≡ append_known before (verdict_line verdict)

-- a front of the line was added that tells the verdict on the certificate, if that is within its limit, and else nothing
pub record AddsVerdictFront (plant : Plant) (certificate : List ℕ) (before after : Option (List ℕ)) : Type 0 where
  pub of_verdict : (verdict : Verdict) → length certificate ≤ CERTIFICATE_BYTES → IsVerdictOn plant certificate verdict
      → AddsFront (verdict_line verdict) before after
  pub of_long : CERTIFICATE_BYTES < length certificate → after ≡ before

-- what judging a certificate whose text is told came to
abbrev pub JudgesTold : Plant → List ℕ → Option (List ℕ) → Option (List ℕ) → Result Ended RunFault → Type 0
JudgesTold plant certificate before after (Ok ended) = TellsJudgement plant certificate before after ended
JudgesTold plant certificate before after (Err BadWords) = ⊥
JudgesTold plant certificate before after (Err (BadModel code line)) = ⊥
JudgesTold plant certificate before after (Err NoModel) = ⊥
JudgesTold plant certificate before after (Err NoSession) = ⊥
JudgesTold plant certificate before after (Err NoCertificate) = after ≡ before
JudgesTold plant certificate before after (Err NoOutput) = AddsVerdictFront plant certificate before after
JudgesTold plant certificate before after (Err LongSession) = ⊥
JudgesTold plant certificate before after (Err LongCertificate) = (CERTIFICATE_BYTES < length certificate) × (after ≡ before)
JudgesTold plant certificate before after (Err NoMemory) = AddsVerdictFront plant certificate before after
