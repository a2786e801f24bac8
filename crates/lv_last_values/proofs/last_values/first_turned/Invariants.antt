-- nothing is to be judged of the booleans before this place
use Rattle.std.proofs.Common.{ℕ, ◌<◌, get_or}
use Rattle.lv_base.specs.declared.ids.BoolId.{BoolId}
use Rattle.lv_last_values.specs.Occurrences.{IsSettled}
use Rattle.lv_last_values.proofs.last_values.first_turned.Given as goal

abbrev pub invariant-loop-at : goal.invariant-loop-at
invariant-loop-at l = (k : ℕ) (d : BoolId) → k < l.at → IsSettled l.set.slots l.occurrences l.last l.values (get_or l.turned k d).0
