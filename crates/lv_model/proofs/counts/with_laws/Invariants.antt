-- the laws so far
use Rattle.std.proofs.Common.{◌≡◌, ◌+◌, take, sum_by, true}
use Rattle.lv_model.specs.Counts.{held, formula_count}
use Rattle.lv_model.proofs.counts.with_laws.Given as goal

abbrev pub invariant-loop-law : goal.invariant-loop-law
invariant-loop-law l = l.out ≡ held (l.total + sum_by (formula_count l.sizes true) (take l.law-index l.laws))
