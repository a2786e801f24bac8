-- the literals written and those still to come are all, and there is room for the rest
use Rattle.std.proofs.Common.{◌≡◌, ◌+◌, ◌≤◌, ◌++◌, take, drop, length, count_by, is_some}
use Rattle.lv_ltms.specs.Marked.{literals_from}
use Rattle.lv_ltms.proofs.ltms.write_assumptions.Given as goal

abbrev pub invariant-loop-var : goal.invariant-loop-var
invariant-loop-var l =
    record {
      all : take l.written l.out ++ literals_from l.var (drop l.var l.assumed) ≡ literals_from 0 l.assumed;
      room : l.written + count_by is_some (drop l.var l.assumed) ≤ length l.out;
    }
