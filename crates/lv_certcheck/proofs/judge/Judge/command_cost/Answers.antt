-- each price is within its bound, and there are few controls
use Rattle.std.proofs.Common.{◌≡◌, ◌∙◌, ◌≤◌, ◌+◌, length, arith, ap, sym, subst, true}
use Rattle.lv_model.specs.declared.plant.Plant.{Plant}
use Rattle.lv_model.specs.Lists.{controls}
use Rattle.lv_model.specs.WellFormed.{is_well_formed}
use Rattle.lv_search_zones.proofs.ControlLemmas.{cheap_price, few_controls}
use Rattle.lv_certcheck.specs.Settings.{plant_of}
use Rattle.lv_certcheck.proofs.ShownLemmas.{cost_of_first}
use Rattle.lv_certcheck.proofs.judge.Judge.command_cost.Goals as goal

pub overflow_add-cost : goal.overflow_add-cost
overflow_add-cost c =
    let plant = plant_of c.args.self.now.setting in
    let items : c.deref-control-items.result.now ≡ controls plant = c.deref-control-items.ensures.value ∙ c.requires.setting.counts_are.controls_are in
    let h : is_well_formed plant ≡ true = subst (λ (p : Plant). is_well_formed p ≡ true) c.plant-plant.ensures.plant c.plant-plant.ensures.well_formed in
    let few : length c.deref-control-items.result.now ≤ 4096 = few_controls plant c.plant-plant.result.now c.plant-plant.ensures.plant c.plant-plant.ensures.few c.deref-control-items.result.now items in
    let cheap : c.price-cost.result.0 ≤ 1000000 = subst (λ n. n ≤ 1000000) (sym c.price-cost.ensures) (cheap_price plant h _ _) in
    let bound = c.loop-k.invariant.bound in
    let at = c.loop-k-test.true in
    omega (arith, few, cheap, bound, at)

pub loop-k-preserved : goal.loop-k-preserved
loop-k-preserved c =
    let plant = plant_of c.args.self.now.setting in
    let items : c.deref-control-items.result.now ≡ controls plant = c.deref-control-items.ensures.value ∙ c.requires.setting.counts_are.controls_are in
    let h : is_well_formed plant ≡ true = subst (λ (p : Plant). is_well_formed p ≡ true) c.plant-plant.ensures.plant c.plant-plant.ensures.well_formed in
    let cheap : c.price-cost.result.0 ≤ 1000000 = subst (λ n. n ≤ 1000000) (sym c.price-cost.ensures) (cheap_price plant h _ _) in
    let bound = c.loop-k.invariant.bound in
    let at = c.loop-k-test.true in
    let long : length c.deref-control-items.result.now ≡ length (controls plant) = ap length items in
    let whole = c.requires.values in
    let first = cost_of_first plant c.deref-control-items.result.now c.args.values.now c.loop-k.k (c.loop-k.k + 1) (record { 0 = 0 }) 0 (omega arith) at (omega (arith, at, long, whole)) in
    let price = c.price-cost.ensures in
    let so_far = c.loop-k.invariant.cost in
    record { cost = omega (arith, first, price, so_far); bound = omega (arith, cheap, bound) }
