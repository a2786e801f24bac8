-- the first states of a tracked list are one
use Rattle.std.proofs.Common.{sym, ◌∙◌, subst}
use Rattle.lv_tracker.specs.Tracked.{AreTracked}
use Rattle.lv_tracker.proofs.ListLemmas.{first_are_tracked}
use Rattle.lv_tracker.proofs.tracked.Tracked.distinct.Goals as goal

pub invariant_of-result : goal.invariant_of-result
invariant_of-result c = subst AreTracked (sym (c.from_vec.ensures ∙ c.in_ok-first_of_each.ensures)) (first_are_tracked _ c.requires.some c.requires.few c.requires.costs)
