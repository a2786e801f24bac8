-- the formulas so far
use Rattle.std.proofs.Common.{◌≡◌, ◌+◌, take, sum_by}
use Rattle.lv_model.specs.Counts.{held, mode_formula_count}
use Rattle.lv_model.proofs.counts.with_mode_formulas.Given as goal

abbrev pub invariant-loop-f : goal.invariant-loop-f
invariant-loop-f l = l.out ≡ held (l.total + sum_by (mode_formula_count l.sizes) (take l.f-index l.formulas))
