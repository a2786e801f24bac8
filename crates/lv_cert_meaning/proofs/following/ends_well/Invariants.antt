-- the hints left end well from the marks now exactly where all do from the first marks
use Rattle.std.proofs.Common.{◌≡◌, ◌++◌, length, drop}
use Rattle.lv_cert_meaning.specs.Following as Following
use Rattle.lv_cert_meaning.specs.Blocks.{clauses_of}
use Rattle.lv_cert_meaning.proofs.following.ends_well.Given as goal

abbrev pub invariant-loop-at : goal.invariant-loop-at
invariant-loop-at l =
    record {
      rest : Following.ends_well (clauses_of l.system ++ l.own) (drop l.at l.hints) l.marks ≡ Following.ends_well (clauses_of l.system ++ l.own) l.hints l.fn.marks;
      len : length l.marks ≡ length l.fn.marks;
    }
