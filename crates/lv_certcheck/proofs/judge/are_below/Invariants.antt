use Rattle.std.proofs.Common.{◌≡◌, drop, nat_lt}
use Rattle.std.specs.Cmp.Lexicographic.{pointwise}
use Rattle.lv_certcheck.proofs.judge.are_below.Given as goal

-- those that are left are below exactly where all are
abbrev pub invariant-loop-k : goal.invariant-loop-k
invariant-loop-k l = pointwise nat_lt (drop l.k l.values) (drop l.k l.counts) ≡ pointwise nat_lt l.values l.counts
