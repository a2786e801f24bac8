use Rattle.std.proofs.Common.{◌≡◌, drop}
use Rattle.lv_certcheck.specs.Giving.{with_clauses}
use Rattle.lv_certcheck.proofs.blocks.give_all.Given as goal

-- with those that are left, all are given
abbrev pub invariant-loop-clause : goal.invariant-loop-clause
invariant-loop-clause l = with_clauses l.block (drop l.clause-index l.clauses) ≡ with_clauses l.fn.block l.clauses
