-- from this place on what the marked steps name is marked
use Rattle.std.proofs.Common.{◌≤◌, length}
use Rattle.lv_cert_writing.specs.Needed.{AreNeeded}
use Rattle.lv_cert_writing.proofs.needed.needed_steps.Given as goal

abbrev pub invariant-loop-place : goal.invariant-loop-place
invariant-loop-place l =
    record {
      within : l.place ≤ length l.log;
      needed : AreNeeded l.log l.needed.items l.place;
    }

abbrev pub decreases-loop-place : goal.decreases-loop-place
decreases-loop-place l = l.place
