-- step by step
use Rattle.std.proofs.Common.{◌++◌, List, ℕ, ap, ◌∙◌}
use Rattle.lv_window.proofs.StepLemmas.{masks_next, masks_done}
use Rattle.lv_window.proofs.zones.free_masks.Goals as goal

pub steps-preserved : goal.steps-preserved
steps-preserved c =
    masks_next c.args.model.now c.steps.left c.steps.masks.items c.extend_from_slice.new.self.items _ c.steps-test.true c.steps.invariant
    (c.in_ok-extend_from_slice.ensures.items ∙ ap (λ (ms : List ℕ). c.steps.masks.items ++ ms) (c.as_slice.ensures.value ∙ c.in_ok-own.ensures))

pub returns : goal.returns
returns c = masks_done c.args.model.now c.steps.left c.steps.masks.items _ c.steps-test.false c.steps.invariant
