-- step by step
use Rattle.std.proofs.Common.{◌+◌, ◌++◌, length, ap, ◌∙◌, arith}
use Rattle.lv_model.specs.declared.plant.Plant.{Plant}
use Rattle.lv_window.specs.Joints.{part_joints}
use Rattle.lv_window.proofs.StepLemmas.{joints_on, joints_done}
use Rattle.lv_window.proofs.joints.joints.Goals as goal

pub push_step-requires-clause-slot : goal.push_step-requires-clause-slot
push_step-requires-clause-slot c =
    let few = c.steps.invariant.few in
    let most = c.requires in
    omega (arith, few, most)

pub steps-preserved : goal.steps-preserved
steps-preserved c =
    let plant_is = c.plant-plant.ensures.plant in
    let few = c.steps.invariant.few in
    let some = c.steps-test.true in
    let count = c.plant-plant.ensures.count in
    let many = c.len.ensures in
    record {
      rest =
          joints_on c.args.model.now c.steps.left c.steps.slot (c.steps.slot + c.len.result) c.steps.out.items c.push_step.new.out.items _ some
          (ap (λ n. c.steps.slot + n) (many ∙ ap (λ (p : Plant). length p.parts) plant_is)) c.steps.invariant.rest
          (c.in_ok-push_step.ensures ∙ ap (λ (p : Plant). c.steps.out.items ++ part_joints p.types c.steps.slot (c.steps.slot + length p.parts) p.parts) plant_is);
      few = omega (arith, few, some, count, many);
    }

pub returns : goal.returns
returns c = joints_done c.args.model.now c.steps.left c.steps.slot c.steps.out.items _ c.steps-test.false c.steps.invariant.rest
