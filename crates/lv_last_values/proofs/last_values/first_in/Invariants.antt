-- each clause of the row is true, or in what is left of it
use Rattle.std.proofs.Common.{◌≡◌, ◌≤◌, ◌⊎◌, true, length}
use Rattle.lv_base.specs.declared.ids.ClauseId.{ClauseId}
use Rattle.lv_last_values.specs.Rows.{Holds, IsIn}
use Rattle.lv_last_values.specs.Occurrences.{id_holds}
use Rattle.lv_last_values.proofs.last_values.first_in.Given as goal

abbrev pub invariant-loop-place : goal.invariant-loop-place
invariant-loop-place l =
    record {
      within : l.place ≤ length l.occurrences.links;
      left : (id : ClauseId) → IsIn l.occurrences l.fn.lit id → Holds l.occurrences.links id l.place ⊎ (id_holds l.values l.set.slots id ≡ true);
    }

abbrev pub decreases-loop-place : goal.decreases-loop-place
decreases-loop-place l = l.place
