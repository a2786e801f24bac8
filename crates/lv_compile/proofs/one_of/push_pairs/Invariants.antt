-- the pairs so far
use Rattle.std.proofs.Common.{◌≡◌, ◌+◌, ◌++◌, map}
use Rattle.std.specs.List.{range_with_len}
use Rattle.lv_compile.specs.ModelClauses.{not_both}
use Rattle.lv_compile.proofs.one_of.push_pairs.Given as goal

abbrev pub invariant-loop-past : goal.invariant-loop-past
invariant-loop-past l = l.out.items ≡ l.initial.out.items ++ map (not_both l.first) (range_with_len (l.first + 1) l.past)
