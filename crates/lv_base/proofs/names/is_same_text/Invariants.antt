-- what is left is the same exactly where all is
use Rattle.std.proofs.Common.{◌≡◌, nat_eq, drop}
use Rattle.std.specs.Cmp.Lexicographic.{pointwise}
use Rattle.lv_base.proofs.names.is_same_text.Given as goal

abbrev pub invariant-loop-at : goal.invariant-loop-at
invariant-loop-at l = pointwise nat_eq (drop l.at l.one) (drop l.at l.other) ≡ pointwise nat_eq l.one l.other
