-- the labels found are labels of these conflicts
use Rattle.std.proofs.Common.{List, ℕ, subst, sym}
use Rattle.lv_search_parts.specs.Labels.{AreLabels}
use Rattle.lv_search_parts.proofs.labels.joined_with.Goals as goal

pub returns-in-Some : goal.returns-in-Some
returns-in-Some c =
    c.part_with.ensures c.args.conflicts.now c.args.slots
    (subst (λ (labels : List ℕ). AreLabels c.args.conflicts.now c.args.slots labels) (sym c.deref.ensures.value) (rw c.in-Some.is at c.in_ok-labels.ensures))
