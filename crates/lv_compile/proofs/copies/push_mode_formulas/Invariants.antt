-- what was added and the clauses of the formulas that are left are all
use Rattle.std.proofs.Common.{◌≡◌, ◌++◌, drop}
use Rattle.std.specs.List.{flat_map}
use Rattle.lv_compile.specs.ModelClauses.{mode_formula_clauses}
use Rattle.lv_compile.proofs.copies.push_mode_formulas.Given as goal

abbrev pub invariant-loop-f : goal.invariant-loop-f
invariant-loop-f l = l.out.items ++ flat_map (mode_formula_clauses l.bools l.base) (drop l.f-index l.formulas) ≡ l.initial.out.items ++ flat_map (mode_formula_clauses l.bools l.base) l.formulas
