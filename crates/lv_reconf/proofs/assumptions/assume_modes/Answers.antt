-- each mode is one that the part's type has
use Rattle.std.proofs.Common.{◌≡◌, ap, ◌∙◌}
use Rattle.lv_model.specs.declared.plant.Plant.{Plant}
use Rattle.lv_reconf.proofs.AssumingLemmas.{mode_there, mode_more, all_modes, assumes_end, modes_left}
use Rattle.lv_reconf.proofs.assumptions.assume_modes.Goals as goal

pub assume_value-requires-clause-there : goal.assume_value-requires-clause-there
assume_value-requires-clause-there c =
    let same : c.plant-plant.result.now ≡ c.args.compiled.now = c.plant-plant.ensures.plant ∙ c.model.ensures in
    mode_there c.args.compiled.now c.args.modes.now c.requires.fit c.loop-k.k c.part-item.result (record { 0 = 0 }) c.as_slice-part-items.result.now
    (c.as_slice-part-items.ensures ∙ ap (λ (p : Plant). p.parts) same) c.loop-k-test.true c.part-item.is

pub loop-k-preserved : goal.loop-k-preserved
loop-k-preserved c =
    let same : c.plant-plant.result.now ≡ c.args.compiled.now = c.plant-plant.ensures.plant ∙ c.model.ensures in
    mode_more c.args.compiled.now c.args.modes.now c.requires.fit c.args.lits.now.items c.loop-k.lits.items c.assume_value.new.lits.items c.loop-k.k c.part-item.result (record { 0 = 0 })
    c.as_slice-part-items.result.now (c.as_slice-part-items.ensures ∙ ap (λ (p : Plant). p.parts) same) c.loop-k-test.true c.part-item.is c.loop-k.invariant c.in_ok-assume_value.ensures

pub returns : goal.returns
returns c =
    let same : c.plant-plant.result.now ≡ c.args.compiled.now = c.plant-plant.ensures.plant ∙ c.model.ensures in
    assumes_end c.args.compiled.now c.args.lits.now.items c.loop-k.lits.items (modes_left c.args.compiled.now c.args.modes.now c.requires.fit c.loop-k.k)
    (modes_left c.args.compiled.now c.args.modes.now c.requires.fit 0) c.loop-k.invariant
    (all_modes c.args.compiled.now c.args.modes.now c.requires.fit c.loop-k.k c.as_slice-part-items.result.now (c.as_slice-part-items.ensures ∙ ap (λ (p : Plant). p.parts) same) c.loop-k-test.false)
