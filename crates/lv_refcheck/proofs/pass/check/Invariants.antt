-- the first bad step of what is left is that of the log, and nothing is marked
use Rattle.std.proofs.Common.{◌≡◌, drop, take}
use Rattle.lv_clauses.specs.Marks.{nothing}
use Rattle.lv_clauses.specs.Following.{first_bad_after, first_bad_step}
use Rattle.lv_refcheck.proofs.pass.check.Given as goal

abbrev pub invariant-loop-place : goal.invariant-loop-place
invariant-loop-place l =
    record {
      rest : first_bad_after l.set (take l.place l.log) (drop l.place l.log) ≡ first_bad_step l.set l.log;
      blank : l.marks ≡ nothing l.set.bools;
    }
