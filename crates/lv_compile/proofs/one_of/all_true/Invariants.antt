-- the literals so far
use Rattle.std.proofs.Common.{◌≡◌, map, true}
use Rattle.std.specs.List.{range_with_len}
use Rattle.lv_compile.specs.Booleans.{literal}
use Rattle.lv_compile.proofs.one_of.all_true.Given as goal

abbrev pub invariant-loop-past : goal.invariant-loop-past
invariant-loop-past l = l.lits.items ≡ map (λ n. literal n true) (range_with_len l.first l.past)
