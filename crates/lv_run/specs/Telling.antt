-- What stands on standard error after a call.
use Rattle.std.specs.Prelude.{◌≡◌, ◌≢◌, ℕ, Bool, true, false, List, ◌++◌, take, Option, Result, Ok, Err, IsTrue}
use Rattle.std.specs.Io.KnownBytes.{append_known}
use Rattle.lv_run.specs.declared.status.Ended.{Ended}
use Rattle.lv_run.specs.declared.status.Status.{Status}
use Rattle.lv_run.specs.declared.status.Status.TheVariants.{OutputFailed, OutOfMemory}
use Rattle.lv_run.specs.declared.fault.RunFault.{RunFault}
use Rattle.lv_run.specs.declared.fault.RunFault.TheVariants.{WordsRefused as BadWords, ModelRefused as BadModel, ModelUnread as NoModel, SessionUnread as NoSession, CertificateUnread as NoCertificate, OutputFailed as NoOutput, SessionTooLong as LongSession, CertificateTooLong as LongCertificate, OutOfMemory as NoMemory}
use Rattle.lv_run.specs.Faults.{status_of, line_of}
use Rattle.lv_run.specs.Statuses.{status_ended}

-- no other line is told behind the fault's own
abbrev pub is_told_alone : RunFault → Bool
is_told_alone BadWords = false
is_told_alone (BadModel code line) = false
is_told_alone NoModel = false
is_told_alone NoSession = false
is_told_alone NoCertificate = false
is_told_alone NoOutput = true
is_told_alone LongSession = false
is_told_alone LongCertificate = false
is_told_alone NoMemory = true

-- a fault was told: its line as a whole, and the call ends with its status; or, where a write failed or found no memory, a
-- front of its line, and behind it a front of the line of want of memory
pub record TellsFault (fault : RunFault) (before after : Option (List ℕ)) (result : Status) : Type 0 where
  pub line : ℕ
  pub memory : ℕ
  pub told : after ≡ append_known before (take line (line_of fault) ++ take memory (line_of NoMemory))
  pub alone : IsTrue (is_told_alone fault) → memory ≡ 0
  pub whole : result ≢ OutputFailed → result ≢ OutOfMemory → (after ≡ append_known before (line_of fault)) × (result ≡ status_of fault)

-- the same of a run that ended so; a run that no fault ended tells nothing
abbrev pub Tells : Result Ended RunFault → Option (List ℕ) → Option (List ℕ) → Status → Type 0
Tells (Ok ended) before after result = (after ≡ before) × (result ≡ status_ended ended)
Tells (Err fault) before after result = TellsFault fault before after result
