-- what stands there and what is left without it are all
use Rattle.std.proofs.Common.{◌≡◌, ◌++◌, drop, filter}
use Rattle.lv_compile.specs.Cleaning.{without_repeats}
use Rattle.lv_compile.proofs.RepeatLemmas.{is_new}
use Rattle.lv_compile.proofs.cleaning.without_repeats.Given as goal

abbrev pub invariant-loop-lit : goal.invariant-loop-lit
invariant-loop-lit l = l.out.items ++ filter (is_new l.out.items) (without_repeats (drop l.lit-index l.lits)) ≡ without_repeats l.lits
