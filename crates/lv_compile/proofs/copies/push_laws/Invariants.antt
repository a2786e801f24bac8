-- what was added and the clauses of the laws that are left are all
use Rattle.std.proofs.Common.{◌≡◌, ◌++◌, drop, true}
use Rattle.std.specs.List.{flat_map}
use Rattle.lv_compile.specs.FormulaClauses.{formula_clauses}
use Rattle.lv_compile.proofs.copies.push_laws.Given as goal

abbrev pub invariant-loop-law : goal.invariant-loop-law
invariant-loop-law l = l.out.items ++ flat_map (formula_clauses l.bools l.base true) (drop l.law-index l.laws) ≡ l.initial.out.items ++ flat_map (formula_clauses l.bools l.base true) l.laws
