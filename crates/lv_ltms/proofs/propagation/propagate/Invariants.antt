-- all before the place at hand was looked at
use Rattle.std.proofs.Common.{◌-◌, length}
use Rattle.lv_ltms.specs.Labelled.{GoesOn}
use Rattle.lv_ltms.specs.Standing.{IsNetwork, IsLooked}
use Rattle.lv_ltms.proofs.propagation.propagate.Given as goal

abbrev pub invariant-loop-at : goal.invariant-loop-at
invariant-loop-at l =
    record {
      network : IsNetwork (length l.fn.labels.marks) l.arena l.near l.far l.labels;
      looked : IsLooked l.arena l.near l.far l.labels l.at;
      goes_on : GoesOn l.arena l.fn.labels l.labels;
    }

abbrev pub decreases-loop-at : goal.decreases-loop-at
decreases-loop-at l = length l.labels.marks - l.at
