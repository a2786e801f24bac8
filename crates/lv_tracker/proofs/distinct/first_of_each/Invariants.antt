use Rattle.std.proofs.Common.{◌≡◌, ◌++◌, filter}
use Rattle.lv_tracker.specs.Distinct.{first_of_each}
use Rattle.lv_tracker.specs.Sets.{states_of}
use Rattle.lv_tracker.proofs.KeptLemmas.{is_new}
use Rattle.lv_tracker.proofs.distinct.first_of_each.Given as goal

-- what was found, and of what is left the first states whose modes are new, are the first of all
abbrev pub invariant-loop-tracked : goal.invariant-loop-tracked
invariant-loop-tracked l = states_of l.found.keys ++ filter (is_new (states_of l.found.keys)) (first_of_each l.tracked-iterator.rest.items) ≡ first_of_each l.fn.states.items
