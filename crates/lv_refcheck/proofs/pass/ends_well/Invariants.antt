-- the hints left end well from the marks now exactly where all do from the first marks
use Rattle.std.proofs.Common.{◌≡◌, length, drop, take}
use Rattle.lv_clauses.specs.Following as Following
use Rattle.lv_refcheck.proofs.pass.ends_well.Given as goal

abbrev pub invariant-loop-at : goal.invariant-loop-at
invariant-loop-at l =
    record {
      rest : Following.ends_well l.set.slots (take l.place l.log) (drop l.at l.hints) l.marks ≡ Following.ends_well l.set.slots (take l.place l.log) l.hints l.fn.marks;
      len : length l.marks ≡ length l.fn.marks;
    }
