-- The text of each reply.
use Rattle.std.specs.Prelude.{ℕ, List, [], ◌++◌, codes}
use Rattle.lv_model.specs.declared.plant.Plant.{Plant}
use Rattle.lv_reply.specs.declared.reply.Refusal.{Refusal}
use Rattle.lv_reply.specs.declared.reply.Refusal.TheVariants.{UnknownWord, Form, UnknownName, NoControl, NoObservable, NoValue, NameHeld, NameNotHeld, OutOfLimits, NoQuery, NotUnsettled, NothingListed, NoGoal, TooManyHeld, LineTooLong, ByteNotAllowed, TooComplex, TooManyCommits}
use Rattle.lv_reply.specs.declared.reply.Reply.{Reply}
use Rattle.lv_reply.specs.declared.reply.Reply.TheVariants.{Nothing, Accepted, Refused, Settled, Unsettled, Conflicts, Committed, States, Recovered, NoRecovery, Undecided, CommandConflicts, Labels, Contradiction, Certificate, Probed, Tested, NoTest, SettledWindow, UnsettledWindow, WindowConflicts}
use Rattle.lv_reply.specs.Diagnosis.{settled_text, unsettled_text}
use Rattle.lv_reply.specs.Conflicts.{conflicts_text, window_conflicts_text, command_conflicts_text}
use Rattle.lv_reply.specs.Recovery.{commands_text, undecided_text}
use Rattle.lv_reply.specs.Labels.{labels_text}
use Rattle.lv_reply.specs.Probes.{probe_text}
use Rattle.lv_reply.specs.States.{committed_text, states_text}

-- the code that a refusal is told by
abbrev pub code_of : Refusal → List ℕ
code_of UnknownWord = codes "S01"
code_of Form = codes "S02"
code_of UnknownName = codes "S03"
code_of NoControl = codes "S04"
code_of NoObservable = codes "S05"
code_of NoValue = codes "S06"
code_of NameHeld = codes "S07"
code_of NameNotHeld = codes "S08"
code_of OutOfLimits = codes "S09"
code_of NoQuery = codes "S10"
code_of NotUnsettled = codes "S11"
code_of NothingListed = codes "S12"
code_of NoGoal = codes "S13"
code_of TooManyHeld = codes "S14"
code_of LineTooLong = codes "S15"
code_of ByteNotAllowed = codes "S16"
code_of TooComplex = codes "S17"
code_of TooManyCommits = codes "S18"

-- `error` and the code
abbrev pub refusal_text : Refusal → List ℕ
refusal_text refusal = codes "error " ++ code_of refusal ++ codes "\n"

-- the text of a reply over a plant; that of a certificate is written where the query is, and isn't told here
abbrev pub reply_text : Plant → Reply → List ℕ
reply_text plant Nothing = []
reply_text plant Accepted = codes "ok\n"
reply_text plant (Refused refusal) = refusal_text refusal
reply_text plant (Settled listed) = settled_text plant 1 listed
reply_text plant (Unsettled listed trials) = unsettled_text plant 1 listed trials
reply_text plant (Conflicts kept trials) = conflicts_text plant kept trials
reply_text plant (Committed time tracked) = committed_text time tracked
reply_text plant (States time tracked) = states_text plant time tracked
reply_text plant (Recovered rank) = commands_text (codes "recovery") plant rank
reply_text plant NoRecovery = codes "no recovery\n"
reply_text plant (Undecided trials) = undecided_text trials
reply_text plant (CommandConflicts kept trials) = command_conflicts_text plant kept trials
reply_text plant (Labels labels) = labels_text plant labels
reply_text plant Contradiction = codes "contradiction\n"
reply_text plant Certificate = []
reply_text plant (Probed listed observables best) = probe_text plant listed observables best
reply_text plant (Tested rank) = commands_text (codes "test") plant rank
reply_text plant NoTest = codes "no test\n"
reply_text plant (SettledWindow steps listed) = settled_text plant steps listed
reply_text plant (UnsettledWindow steps listed trials) = unsettled_text plant steps listed trials
reply_text plant (WindowConflicts first kept trials) = window_conflicts_text plant first kept trials
