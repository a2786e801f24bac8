-- what was added and the steps that are left are all, and the numbers still fit
use Rattle.std.proofs.Common.{◌≡◌, ◌+◌, ◌*◌, ◌≤◌, ◌++◌}
use Rattle.lv_compile.specs.Windows.{steps_clauses}
use Rattle.lv_compile.proofs.windows.push_steps.Given as goal

abbrev pub invariant-steps : goal.invariant-steps
invariant-steps l =
    record {
      rest : l.out.items ++ steps_clauses l.plant l.first l.choice l.left ≡ l.initial.out.items ++ steps_clauses l.plant 0 l.first_choice l.steps;
      fit : l.first + 262144 * l.left ≤ 262144 * l.steps;
      choices : l.choice + 16384 * l.left ≤ l.first_choice + 16384 * l.steps;
    }

abbrev pub decreases-steps : goal.decreases-steps
decreases-steps l = l.left
