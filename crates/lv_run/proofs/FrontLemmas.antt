-- What a reply adds to the counts, by its cases.
use Rattle.std.proofs.Common.{refl}
use Rattle.lv_model.specs.declared.plant.Plant.{Plant}
use Rattle.lv_reply.specs.declared.reply.Reply.{Reply}
use Rattle.lv_reply.specs.declared.reply.Reply.TheVariants.{Nothing, Accepted, Refused, Settled, Unsettled, Conflicts, Committed, States, Recovered, NoRecovery, Undecided, CommandConflicts, Labels, Contradiction, Certificate, Probed, Tested, NoTest, SettledWindow, UnsettledWindow, WindowConflicts}
use Rattle.lv_reply.specs.Diagnosis.{settled_text, unsettled_text}
use Rattle.lv_reply.specs.Conflicts.{conflicts_text, window_conflicts_text, command_conflicts_text}
use Rattle.lv_reply.specs.Recovery.{commands_text, undecided_text}
use Rattle.lv_reply.specs.Labels.{labels_text}
use Rattle.lv_reply.specs.Probes.{probe_text}
use Rattle.lv_reply.specs.States.{committed_text, states_text}
use Rattle.lv_run.specs.declared.tally.Tally.{Tally}
use Rattle.lv_run.specs.Fronts.{CountsFront, CountsAreOfFronts}

module _ (plant : Plant) (t : Tally) where
  counts_front : (reply : Reply) → CountsFront plant t reply
  unfolding settled_text unsettled_text conflicts_text window_conflicts_text command_conflicts_text commands_text undecided_text labels_text probe_text committed_text states_text
  counts_front Nothing = record { errors = refl; settled = refl; unsettled = refl; trials = λ h. refl; replies = λ h. absurd (h refl) }
  counts_front Accepted = record { errors = refl; settled = refl; unsettled = refl; trials = λ h. refl; replies = λ h. refl }
  counts_front (Refused refusal) = record { errors = refl; settled = refl; unsettled = refl; trials = λ h. refl; replies = λ h. refl }
  counts_front (Settled listed) = record { errors = refl; settled = refl; unsettled = refl; trials = λ h. refl; replies = λ h. refl }
  counts_front (Unsettled listed trials) = record { errors = refl; settled = refl; unsettled = refl; trials = λ h. refl; replies = λ h. refl }
  counts_front (Conflicts kept trials) = record { errors = refl; settled = refl; unsettled = refl; trials = λ h. absurd (cc h); replies = λ h. refl }
  counts_front (Committed time tracked) = record { errors = refl; settled = refl; unsettled = refl; trials = λ h. refl; replies = λ h. refl }
  counts_front (States time tracked) = record { errors = refl; settled = refl; unsettled = refl; trials = λ h. refl; replies = λ h. refl }
  counts_front (Recovered rank) = record { errors = refl; settled = refl; unsettled = refl; trials = λ h. refl; replies = λ h. refl }
  counts_front NoRecovery = record { errors = refl; settled = refl; unsettled = refl; trials = λ h. refl; replies = λ h. refl }
  counts_front (Undecided trials) = record { errors = refl; settled = refl; unsettled = refl; trials = λ h. refl; replies = λ h. refl }
  counts_front (CommandConflicts kept trials) = record { errors = refl; settled = refl; unsettled = refl; trials = λ h. absurd (cc h); replies = λ h. refl }
  counts_front (Labels labels) = record { errors = refl; settled = refl; unsettled = refl; trials = λ h. refl; replies = λ h. refl }
  counts_front Contradiction = record { errors = refl; settled = refl; unsettled = refl; trials = λ h. refl; replies = λ h. refl }
  counts_front Certificate = record { errors = refl; settled = refl; unsettled = refl; trials = λ h. refl; replies = λ h. refl }
  counts_front (Probed listed observables best) = record { errors = refl; settled = refl; unsettled = refl; trials = λ h. refl; replies = λ h. refl }
  counts_front (Tested rank) = record { errors = refl; settled = refl; unsettled = refl; trials = λ h. refl; replies = λ h. refl }
  counts_front NoTest = record { errors = refl; settled = refl; unsettled = refl; trials = λ h. refl; replies = λ h. refl }
  counts_front (SettledWindow steps listed) = record { errors = refl; settled = refl; unsettled = refl; trials = λ h. refl; replies = λ h. refl }
  counts_front (UnsettledWindow steps listed trials) = record { errors = refl; settled = refl; unsettled = refl; trials = λ h. refl; replies = λ h. refl }
  counts_front (WindowConflicts first kept trials) = record { errors = refl; settled = refl; unsettled = refl; trials = λ h. absurd (cc h); replies = λ h. refl }

pub of_fronts : CountsAreOfFronts
of_fronts plant t reply = counts_front plant t reply
