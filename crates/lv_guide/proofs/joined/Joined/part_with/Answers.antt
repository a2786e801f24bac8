-- the labels are those that are joined
use Rattle.std.proofs.Common.{ℕ, List, subst, sym, ◌∙◌}
use Rattle.lv_guide.specs.Beside.{AreJoined}
use Rattle.lv_guide.proofs.joined.Joined.part_with.Goals as goal

pub returns : goal.returns
returns c conflicts slots joined = c.part_with.ensures conflicts slots (subst (λ (labels : List ℕ). AreJoined conflicts slots labels) (sym c.self.view_is ∙ sym c.as_slice.ensures.value) joined)
