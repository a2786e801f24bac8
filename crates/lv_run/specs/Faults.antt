-- What ends a run before it is done: the status that it comes to, and its line on standard error.
use Rattle.std.specs.Prelude.{ℕ, nat_lt, List, [], ◌∷◌, ◌++◌, Option, IfSome, Result, Ok, Err, codes, decimal, if◌then◌else◌}
use Rattle.lv_io.specs.declared.IoFault.{IoFault}
use Rattle.lv_io.specs.declared.IoFault.TheVariants.{Failed, Memory}
use Rattle.lv_reader.specs.Codes.{number_of}
use Rattle.lv_reader.specs.declared.code.ModelCode.{ModelCode}
use Rattle.lv_reader.specs.declared.fault.ModelFault.{ModelFault}
use Rattle.lv_reader.specs.declared.fault.ModelFault.TheVariants.{At, Memory as NoRoomForText}
use Rattle.lv_checker.specs.Verdicts.{IsVerdict, refused}
use Rattle.lv_run_words.specs.declared.WordsFault.{WordsFault}
use Rattle.lv_run_words.specs.declared.WordsFault.TheVariants.{Refused, Memory as NoRoom}
use Rattle.lv_serve.specs.declared.fault.ServeFault.{ServeFault}
use Rattle.lv_serve.specs.declared.fault.ServeFault.TheVariants.{Read as Unread, Write as Unwritten, TooLong, Memory as OutOfRoom}
use Rattle.lv_run.specs.Statuses.{status_ended}
use Rattle.lv_run.specs.declared.status.Ended.{Ended}
use Rattle.lv_run.specs.declared.status.Status.{Status}
use Rattle.lv_run.specs.declared.status.Status.TheVariants.{WordsRefused, ModelRefused, ModelUnread, SecondUnread, OutputFailed, SecondTooLong, OutOfMemory}
use Rattle.lv_run.specs.declared.fault.RunFault.{RunFault}
use Rattle.lv_run.specs.declared.fault.RunFault.TheVariants.{WordsRefused as BadWords, ModelRefused as BadModel, ModelUnread as NoModel, SessionUnread as NoSession, CertificateUnread as NoCertificate, OutputFailed as NoOutput, SessionTooLong as LongSession, CertificateTooLong as LongCertificate, OutOfMemory as NoMemory}

-- the status that a call ends with
abbrev pub status_of : RunFault → Status
status_of BadWords = WordsRefused
status_of (BadModel code line) = ModelRefused
status_of NoModel = ModelUnread
status_of NoSession = SecondUnread
status_of NoCertificate = SecondUnread
status_of NoOutput = OutputFailed
status_of LongSession = SecondTooLong
status_of LongCertificate = SecondTooLong
status_of NoMemory = OutOfMemory

-- the status of a run that ended so
abbrev pub ended_status : Result Ended RunFault → Status
ended_status (Ok ended) = status_ended ended
ended_status (Err fault) = status_of fault

-- a text as a line, with its line feed
abbrev pub line : List ℕ → List ℕ
line text = text ++ 10 ∷ []

-- a number with at least two digits
abbrev pub two_digits : ℕ → List ℕ
two_digits n = if nat_lt n 10 then codes "0" ++ decimal n else decimal n

-- `model LINE Mnn`
abbrev pub model_line : ModelCode → ℕ → List ℕ
model_line code line = codes "model " ++ decimal line ++ codes " M" ++ two_digits (number_of code) ++ codes "\n"

-- the line that tells the fault on standard error; a failure of the output has none
unfoldable pub line_of : RunFault → List ℕ
line_of BadWords = line (codes "usage: livingstone run MODEL SESSION, check MODEL CERT, print MODEL, generate KIND N, drive N, lanes MODEL SESSION, plant MODEL SCRIPT")
line_of (BadModel code at) = model_line code at
line_of NoModel = line (codes "cannot read model")
line_of NoSession = line (codes "cannot read session")
line_of NoCertificate = line (codes "cannot read certificate")
line_of NoOutput = []
line_of LongSession = line (codes "session too long")
line_of LongCertificate = line (codes "certificate too long")
line_of NoMemory = line (codes "out of memory")

-- what a fault of writing ends a run with
abbrev pub fault_of_sink : IoFault → RunFault
fault_of_sink Failed = NoOutput
fault_of_sink Memory = NoMemory

-- what a fault of a model's text ends a run with
abbrev pub fault_of_text : ModelFault → RunFault
fault_of_text (At code line) = BadModel code line
fault_of_text NoRoomForText = NoMemory

-- what a fault of the words ends a run with
abbrev pub fault_of_words : WordsFault → RunFault
fault_of_words Refused = BadWords
fault_of_words NoRoom = NoMemory

-- what a fault of serving ends a run with
abbrev pub fault_of_serving : ServeFault → RunFault
fault_of_serving Unread = NoSession
fault_of_serving Unwritten = NoOutput
fault_of_serving TooLong = LongSession
fault_of_serving OutOfRoom = NoMemory

-- a run ends so before the second file is opened
abbrev pub EndsModel : RunFault → Type 0
EndsModel BadWords = ⊥
EndsModel (BadModel code at) = Unit {0}
EndsModel NoModel = Unit {0}
EndsModel NoSession = ⊥
EndsModel NoCertificate = ⊥
EndsModel NoOutput = ⊥
EndsModel LongSession = ⊥
EndsModel LongCertificate = ⊥
EndsModel NoMemory = Unit {0}

-- a run ends so where the session is opened
abbrev pub EndsOpening : RunFault → Type 0
EndsOpening BadWords = ⊥
EndsOpening (BadModel code at) = ⊥
EndsOpening NoModel = ⊥
EndsOpening NoSession = Unit {0}
EndsOpening NoCertificate = ⊥
EndsOpening NoOutput = ⊥
EndsOpening LongSession = ⊥
EndsOpening LongCertificate = ⊥
EndsOpening NoMemory = Unit {0}

-- a run ends so where the session is opened and served
abbrev pub EndsSession : RunFault → Type 0
EndsSession BadWords = ⊥
EndsSession (BadModel code at) = ⊥
EndsSession NoModel = ⊥
EndsSession NoSession = Unit {0}
EndsSession NoCertificate = ⊥
EndsSession NoOutput = Unit {0}
EndsSession LongSession = Unit {0}
EndsSession LongCertificate = ⊥
EndsSession NoMemory = Unit {0}

-- a run ends so where the certificate is opened and read
abbrev pub EndsReading : RunFault → Type 0
EndsReading BadWords = ⊥
EndsReading (BadModel code at) = ⊥
EndsReading NoModel = ⊥
EndsReading NoSession = ⊥
EndsReading NoCertificate = Unit {0}
EndsReading NoOutput = ⊥
EndsReading LongSession = ⊥
EndsReading LongCertificate = Unit {0}
EndsReading NoMemory = Unit {0}

-- a run ends so where a certificate that was read is judged and the verdict written
abbrev pub EndsWriting : RunFault → Type 0
EndsWriting BadWords = ⊥
EndsWriting (BadModel code at) = ⊥
EndsWriting NoModel = ⊥
EndsWriting NoSession = ⊥
EndsWriting NoCertificate = ⊥
EndsWriting NoOutput = Unit {0}
EndsWriting LongSession = ⊥
EndsWriting LongCertificate = ⊥
EndsWriting NoMemory = Unit {0}

-- a run ends so where the certificate is opened, read and judged
abbrev pub EndsCheck : RunFault → Type 0
EndsCheck BadWords = ⊥
EndsCheck (BadModel code at) = ⊥
EndsCheck NoModel = ⊥
EndsCheck NoSession = ⊥
EndsCheck NoCertificate = Unit {0}
EndsCheck NoOutput = Unit {0}
EndsCheck LongSession = ⊥
EndsCheck LongCertificate = Unit {0}
EndsCheck NoMemory = Unit {0}

-- where the model is refused, that is the verdict of its text
abbrev pub RefusesBy : RunFault → Option (List ℕ) → Type 0
RefusesBy BadWords text = Unit {0}
RefusesBy (BadModel code at) text = IfSome text (λ bytes. IsVerdict bytes (refused code at))
RefusesBy NoModel text = Unit {0}
RefusesBy NoSession text = Unit {0}
RefusesBy NoCertificate text = Unit {0}
RefusesBy NoOutput text = Unit {0}
RefusesBy LongSession text = Unit {0}
RefusesBy LongCertificate text = Unit {0}
RefusesBy NoMemory text = Unit {0}
