-- those gone over are cleared
use Rattle.std.proofs.Common.{◌≤◌, take}
use Rattle.lv_ltms.proofs.ReadLemmas.{IsCleared}
use Rattle.lv_ltms.proofs.revision.lower_all.Given as goal

abbrev pub invariant-loop-lit : goal.invariant-loop-lit
invariant-loop-lit l =
    record {
      cleared : IsCleared l.near l.far l.labels.trail (take l.lit-index l.fallen) l.looked;
      less : l.looked ≤ l.done;
    }
