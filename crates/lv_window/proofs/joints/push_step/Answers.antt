-- part by part
use Rattle.std.proofs.Common.{◌+◌, ◌++◌, List, length, refl, ap, ◌∙◌}
use Rattle.lv_model.specs.declared.plant.ComponentType.{ComponentType}
use Rattle.lv_model.specs.declared.plant.Part.{Part}
use Rattle.lv_meaning.specs.Candidates.{type_moves}
use Rattle.lv_window.specs.Joints.{joints_of, part_joints}
use Rattle.lv_window.proofs.BreakLemmas.{parts_begin, parts_more, parts_done}
use Rattle.lv_window.proofs.joints.push_step.Goals as goal

pub loop-part-init : goal.loop-part-init
loop-part-init c =
    parts_begin c.args.plant.now.types c.args.slot (c.args.slot + length c.as_slice-parts.result.now) c.as_slice-parts.result.now c.args.out.now.items
    (c.args.out.now.items ++ part_joints c.args.plant.now.types c.args.slot (c.args.slot + length c.as_slice-parts.result.now) c.as_slice-parts.result.now) refl

pub loop-part-preserved : goal.loop-part-preserved
loop-part-preserved c =
    let moves = c.moves_of.ensures.moves ∙ ap (λ (ts : List ComponentType). type_moves ts c.index-parts-part.result) c.as_slice.ensures in
    parts_more c.args.plant.now.types c.args.slot (c.args.slot + length c.as_slice-parts.result.now) c.as_slice-parts.result.now c.loop-part.part c.index-parts-part.result c.loop-part.out.items
    c.push_joints.new.out.items (c.args.out.now.items ++ part_joints c.args.plant.now.types c.args.slot (c.args.slot + length c.as_slice-parts.result.now) c.as_slice-parts.result.now)
    c.loop-part-test.true c.index-parts-part.is c.loop-part.invariant
    (c.in_ok-push_joints.ensures
    ∙ (λ i. c.loop-part.out.items ++ joints_of (c.args.slot + c.loop-part.part) (c.args.slot + length c.as_slice-parts.result.now + c.loop-part.part) 0 (moves i) (moves i)))

pub returns : goal.returns
returns c =
    parts_done c.args.plant.now.types c.args.slot (c.args.slot + length c.as_slice-parts.result.now) c.as_slice-parts.result.now c.loop-part.part c.loop-part.out.items
    (c.args.out.now.items ++ part_joints c.args.plant.now.types c.args.slot (c.args.slot + length c.as_slice-parts.result.now) c.as_slice-parts.result.now) c.loop-part-test.false c.loop-part.invariant
    ∙ ap (λ (ps : List Part). c.args.out.now.items ++ part_joints c.args.plant.now.types c.args.slot (c.args.slot + length ps) ps) c.as_slice-parts.ensures
