-- the clauses of the values so far
use Rattle.std.proofs.Common.{◌≡◌, map}
use Rattle.std.specs.List.{range_with_len}
use Rattle.lv_compile.specs.FormulaClauses.{equality_clause}
use Rattle.lv_compile.proofs.formula.equality.Given as goal

abbrev pub invariant-loop-value : goal.invariant-loop-value
invariant-loop-value l = l.out.items ≡ map (equality_clause l.bools l.equation.left l.equation.right l.equation.sign) (range_with_len 0 l.value)
