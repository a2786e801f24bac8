-- what was added and what is known of the steps left is what is known of all
use Rattle.std.proofs.Common.{◌≡◌, ◌++◌, drop}
use Rattle.lv_compile.specs.Windows.{past_copies}
use Rattle.lv_window.specs.Known.{window_literals}
use Rattle.lv_window.proofs.known.window_literals.Given as goal

abbrev pub invariant-loop-number : goal.invariant-loop-number
invariant-loop-number l = l.out.items ++ window_literals l.model (past_copies l.model 0 l.number) (drop l.number l.steps) ≡ window_literals l.model 0 l.steps
