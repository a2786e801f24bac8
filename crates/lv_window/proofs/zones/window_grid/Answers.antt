-- step by step, each with a slot for each part
use Rattle.std.proofs.Common.{◌++◌, List, All, subst, sym, ap, ◌∙◌, arith}
use Rattle.lv_base.specs.declared.ids.Cost.{Cost}
use Rattle.lv_boxes.specs.Members.{IsSlot}
use Rattle.lv_window.proofs.StepLemmas.{slots_next, slots_done, few_slots, more_slots}
use Rattle.lv_window.proofs.zones.window_grid.Goals as goal

pub push_slots-requires-clause-each : goal.push_slots-requires-clause-each
push_slots-requires-clause-each c = subst (λ (ss : List (List Cost)). All IsSlot ss) (sym c.slots.ensures.slots) c.slots.ensures.each

pub push_slots-requires-clause-room : goal.push_slots-requires-clause-room
push_slots-requires-clause-room c =
    let own = few_slots c.args.model.now (rw c.plant-plant.ensures.plant at c.plant-plant.ensures.count) c.slots.result.now (c.slots.ensures.slots ∙ c.in_ok-own.ensures) in
    let few = c.steps.invariant.few in
    omega (arith, own, few)

pub steps-preserved : goal.steps-preserved
steps-preserved c =
    let own = c.slots.ensures.slots ∙ c.in_ok-own.ensures in
    let more = more_slots c.args.model.now (rw c.plant-plant.ensures.plant at c.plant-plant.ensures.count) c.steps.grid c.slots.result.now c.push_slots.new.grid own c.in_ok-push_slots.ensures in
    let few = c.steps.invariant.few in
    let some = c.steps-test.true in
    record {
      rest =
          slots_next c.args.model.now c.steps.left c.steps.grid c.push_slots.new.grid _ some c.steps.invariant.rest
          (c.in_ok-push_slots.ensures ∙ ap (λ (ss : List (List Cost)). c.steps.grid ++ ss) own);
      few = omega (arith, more, few, some);
    }

pub returns : goal.returns
returns c = slots_done c.args.model.now c.steps.left c.steps.grid _ c.steps-test.false c.steps.invariant.rest
