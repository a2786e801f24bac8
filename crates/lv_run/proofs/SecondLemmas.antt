-- How a run ends at its second file, a session or a certificate.
use Rattle.std.specs.Prelude.{Result, Ok, Err, IfErr}
use Rattle.lv_run.specs.Faults.{EndsSession, EndsCheck}
use Rattle.lv_run.specs.declared.status.Ended.{Ended}
use Rattle.lv_run.specs.declared.fault.RunFault.{RunFault}
use Rattle.lv_run.specs.declared.fault.RunFault.TheVariants.{WordsRefused as BadWords, ModelRefused as BadModel, ModelUnread as NoModel, SessionUnread as NoSession, CertificateUnread as NoCertificate, OutputFailed as NoOutput, SessionTooLong as LongSession, CertificateTooLong as LongCertificate, OutOfMemory as NoMemory}

-- a run ends so where its second file is opened and dealt with
abbrev pub EndsSecond : RunFault → Type 0
EndsSecond BadWords = ⊥
EndsSecond (BadModel code at) = ⊥
EndsSecond NoModel = ⊥
EndsSecond NoSession = Unit {0}
EndsSecond NoCertificate = Unit {0}
EndsSecond NoOutput = Unit {0}
EndsSecond LongSession = Unit {0}
EndsSecond LongCertificate = Unit {0}
EndsSecond NoMemory = Unit {0}

of_session : (fault : RunFault) → EndsSession fault → EndsSecond fault
of_session BadWords ends = ends
of_session (BadModel code at) ends = ends
of_session NoModel ends = ends
of_session NoSession ends = tt
of_session NoCertificate ends = tt
of_session NoOutput ends = tt
of_session LongSession ends = tt
of_session LongCertificate ends = tt
of_session NoMemory ends = tt

of_check : (fault : RunFault) → EndsCheck fault → EndsSecond fault
of_check BadWords ends = ends
of_check (BadModel code at) ends = ends
of_check NoModel ends = ends
of_check NoSession ends = tt
of_check NoCertificate ends = tt
of_check NoOutput ends = tt
of_check LongSession ends = tt
of_check LongCertificate ends = tt
of_check NoMemory ends = tt

pub session_ends : (result : Result Ended RunFault) → IfErr result EndsSession → IfErr result EndsSecond
session_ends (Ok ended) ends = tt
session_ends (Err fault) ends = of_session fault ends

pub check_ends : (result : Result Ended RunFault) → IfErr result EndsCheck → IfErr result EndsSecond
check_ends (Ok ended) ends = tt
check_ends (Err fault) ends = of_check fault ends
