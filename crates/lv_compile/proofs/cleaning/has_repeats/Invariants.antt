-- some stand twice exactly where they do in what is left
use Rattle.std.proofs.Common.{◌≡◌, length}
use Rattle.lv_compile.specs.Cleaning.{has_repeats}
use Rattle.lv_compile.proofs.cleaning.has_repeats.Given as goal

abbrev pub invariant-loop-first : goal.invariant-loop-first
invariant-loop-first l = has_repeats l.rest ≡ has_repeats l.lits

abbrev pub decreases-loop-first : goal.decreases-loop-first
decreases-loop-first l = length l.rest
