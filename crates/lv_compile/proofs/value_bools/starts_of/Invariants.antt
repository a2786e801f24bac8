-- what was added and the starts of what is left are all starts, and the numbers still fit
use Rattle.std.proofs.Common.{◌≡◌, ◌+◌, ◌<◌, ◌++◌, ◌^◌, drop}
use Rattle.std.specs.List.{sum}
use Rattle.lv_compile.specs.Booleans.{starts_from}
use Rattle.lv_compile.proofs.value_bools.starts_of.Given as goal

abbrev pub invariant-loop-size : goal.invariant-loop-size
invariant-loop-size l =
    record {
      rest : l.out.items ++ starts_from l.start (drop l.size-index l.sizes) ≡ starts_from l.first l.sizes;
      fit : l.start + sum (drop l.size-index l.sizes) < 2 ^ 32;
    }
