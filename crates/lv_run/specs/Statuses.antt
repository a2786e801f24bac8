-- What a status is outside: its number; and the status that a run which no fault ended comes to.
use Rattle.std.specs.Prelude.{ℕ}
use Rattle.lv_run.specs.declared.status.Ended.{Ended}
use Rattle.lv_run.specs.declared.status.Ended.TheVariants.{Done as AllDone, Invalid as NotValid}
use Rattle.lv_run.specs.declared.status.Status.{Status}
use Rattle.lv_run.specs.declared.status.Status.TheVariants.{Done, WordsRefused, ModelRefused, ModelUnread, SecondUnread, OutputFailed, SecondTooLong, OutOfMemory, Invalid}

-- the exit status of the process
abbrev pub code_of : Status → ℕ
code_of Done = 0
code_of WordsRefused = 2
code_of ModelRefused = 3
code_of ModelUnread = 4
code_of SecondUnread = 5
code_of OutputFailed = 6
code_of SecondTooLong = 7
code_of OutOfMemory = 8
code_of Invalid = 9

-- the status that a run comes to which no fault ended
abbrev pub status_ended : Ended → Status
status_ended AllDone = Done
status_ended NotValid = Invalid
