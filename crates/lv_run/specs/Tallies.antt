-- What replies come to, counted one by one.
use Rattle.std.specs.Prelude.{ℕ, ◌+◌, ◌-◌, ◌*◌, ◌^◌, ◌≤◌, length}
use Rattle.lv_reply.specs.declared.reply.Reply.{Reply}
use Rattle.lv_reply.specs.declared.reply.Reply.TheVariants.{Nothing, Refused, Settled, Unsettled, Undecided, Conflicts, CommandConflicts, Committed, States, SettledWindow, UnsettledWindow, WindowConflicts}
use Rattle.lv_run.specs.declared.tally.Tally.{Tally}

-- before any reply
abbrev pub none_counted : Tally
none_counted = record { replies = 0; errors = 0; settled = 0; unsettled = 0; trials = 0; tracked = 0 }

-- one more reply, which tells of so many tracked states
abbrev pub replied : Tally → ℕ → Tally
replied t tracked = record t { replies = t.replies + 1; tracked = tracked }

-- with one more reply; where nothing is said there is none
abbrev pub counted : Tally → Reply → Tally
counted t Nothing = t
counted t (Refused refusal) = record (replied t 0) { errors = t.errors + 1 }
counted t (Settled listed) = record (replied t 0) { settled = t.settled + 1 }
counted t (Unsettled listed trials) = record (replied t 0) { unsettled = t.unsettled + 1 }
counted t (SettledWindow steps listed) = record (replied t 0) { settled = t.settled + 1 }
counted t (UnsettledWindow steps listed trials) = record (replied t 0) { unsettled = t.unsettled + 1 }
counted t (WindowConflicts first kept trials) = record (replied t 0) { trials = t.trials + trials }
counted t (Undecided trials) = record (replied t 0) { unsettled = t.unsettled + 1 }
counted t (Conflicts kept trials) = record (replied t 0) { trials = t.trials + trials }
counted t (CommandConflicts kept trials) = record (replied t 0) { trials = t.trials + trials }
counted t (Committed time tracked) = replied t tracked
counted t (States time tracked) = replied t (length tracked)
counted t reply = replied t 0

-- no kind has more replies than there are, and none told more trials than a number of 64 bits
pub record IsSmall (t : Tally) : Type 0 where
  pub errors : t.errors ≤ t.replies
  pub settled : t.settled ≤ t.replies
  pub unsettled : t.unsettled ≤ t.replies
  pub trials : t.trials ≤ t.replies * (2 ^ 64 - 1)
