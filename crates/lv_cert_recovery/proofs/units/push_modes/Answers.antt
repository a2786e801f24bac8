-- each mode is one that the part's type has
use Rattle.std.proofs.Common.{ap, ◌∙◌}
use Rattle.lv_model.specs.declared.plant.Plant.{Plant}
use Rattle.lv_cert_recovery.proofs.UnitLemmas.{mode_there}
use Rattle.lv_cert_recovery.proofs.units.push_modes.Goals as goal

pub lit_of-requires : goal.lit_of-requires
lit_of-requires c =
    mode_there c.args.model.now c.args.system.now.before c.requires.system.before c.args.modes.now c.requires.fit c.loop-k.k c.part-item.result (record { 0 = 0 }) c.as_slice-part-items.result.now
    (c.as_slice-part-items.ensures ∙ ap (λ (p : Plant). p.parts) c.plant-plant.ensures.plant) c.loop-k-test.true c.part-item.is
