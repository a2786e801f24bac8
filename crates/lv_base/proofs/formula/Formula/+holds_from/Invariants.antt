-- what is left of the operands gives the truth of all of them, and reads within the assignment
use Rattle.std.proofs.Common.{◌≡◌, true, length, map, drop}
use Rattle.lv_base.specs.Fold.{every, some, is_true_in, reads_in}
use Rattle.lv_base.proofs.formula.Formula.+holds_from.Given as goal

abbrev pub decreases-holds_from : goal.decreases-holds_from
decreases-holds_from l = goal.size-holds_from l

abbrev pub invariant-all : goal.invariant-all
invariant-all l =
    record {
      rest : every (map (is_true_in l.values l.base) (drop l.f-index l.f-items)) ≡ is_true_in l.values l.base l.self;
      within : every (map (reads_in (length l.values) l.base) (drop l.f-index l.f-items)) ≡ true;
    }

abbrev pub invariant-any : goal.invariant-any
invariant-any l =
    record {
      rest : some (map (is_true_in l.values l.base) (drop l.f-index l.f-items)) ≡ is_true_in l.values l.base l.self;
      within : every (map (reads_in (length l.values) l.base) (drop l.f-index l.f-items)) ≡ true;
    }
