-- what was gathered and the counts of the steps that are left are all
use Rattle.std.proofs.Common.{◌≡◌, ◌++◌}
use Rattle.lv_compile.specs.WindowLaws.{counts_of}
use Rattle.lv_system.proofs.window.all_counts.Given as goal

abbrev pub invariant-steps : goal.invariant-steps
invariant-steps l = l.counts.items ++ counts_of l.model l.left ≡ counts_of l.model l.steps

abbrev pub decreases-steps : goal.decreases-steps
decreases-steps l = l.left
