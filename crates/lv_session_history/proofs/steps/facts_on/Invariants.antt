-- what is there and what is known of the commits that are left are all
use Rattle.std.proofs.Common.{◌≡◌, ◌++◌, length}
use Rattle.lv_session_history.specs.Steps.{facts_on}
use Rattle.lv_session_history.proofs.steps.facts_on.Given as goal

abbrev pub invariant-loop-past : goal.invariant-loop-past
invariant-loop-past l = l.out.items ++ facts_on l.rest l.present l.last ≡ facts_on l.commits l.present l.last

abbrev pub decreases-loop-past : goal.decreases-loop-past
decreases-loop-past l = length l.rest
