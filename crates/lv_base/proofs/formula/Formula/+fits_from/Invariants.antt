-- what is left of the operands tells whether all of them fit
use Rattle.std.proofs.Common.{◌≡◌, map, drop}
use Rattle.lv_base.specs.Fold.{every, fits_in}
use Rattle.lv_base.proofs.formula.Formula.+fits_from.Given as goal

abbrev pub decreases-fits_from : goal.decreases-fits_from
decreases-fits_from l = goal.size-fits_from l

abbrev pub invariant-all : goal.invariant-all
invariant-all l = every (map (fits_in l.ranges) (drop l.f-index l.f-items)) ≡ fits_in l.ranges l.self

abbrev pub invariant-any : goal.invariant-any
invariant-any l = every (map (fits_in l.ranges) (drop l.f-index l.f-items)) ≡ fits_in l.ranges l.self
