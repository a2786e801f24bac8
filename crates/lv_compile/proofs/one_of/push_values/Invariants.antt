-- what was added and what is left to say are all, and the numbers still fit
use Rattle.std.proofs.Common.{◌≡◌, ◌+◌, ◌<◌, ◌++◌, ◌^◌, drop}
use Rattle.std.specs.List.{sum}
use Rattle.lv_compile.specs.ModelClauses.{values_clauses}
use Rattle.lv_compile.proofs.one_of.push_values.Given as goal

abbrev pub invariant-loop-size : goal.invariant-loop-size
invariant-loop-size l = record {
  rest : l.out.items ++ values_clauses l.start (drop l.size-index l.sizes) ≡ l.initial.out.items ++ values_clauses l.first l.sizes;
  fit : l.start + sum (drop l.size-index l.sizes) < 2 ^ 32;
}
