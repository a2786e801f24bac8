-- the mode of each part is one that it has
use Rattle.std.proofs.Common.{◌≡◌, ◌∙◌, true, List, map, slice_index_or, sym, ap, subst}
use Rattle.lv_model.specs.declared.plant.Plant.{Plant}
use Rattle.lv_model.specs.declared.plant.Part.{Part}
use Rattle.lv_model.specs.Lists.{sizes}
use Rattle.lv_cert_meaning.specs.Fitting.{are_values}
use Rattle.lv_certcheck.specs.Settings.{plant_of}
use Rattle.lv_certcheck.proofs.GivingLemmas.{mode_below}
use Rattle.lv_certcheck.proofs.blocks.give_modes.Goals as goal

pub give_value-requires-clause-value : goal.give_value-requires-clause-value
give_value-requires-clause-value c =
    let plant = plant_of c.args.setting.now in
    let parts : c.as_slice-part-items.result.now ≡ plant.parts = c.as_slice-part-items.ensures ∙ ap (λ (p : Plant). p.parts) c.plant.ensures.plant in
    mode_below (sizes plant) c.as_slice-part-items.result.now c.args.modes.now c.loop-k.k (record { 0 = 0 }) c.part-item.result
    (subst (λ (ps : List Part). are_values (map (λ (q : Part). slice_index_or (sizes plant) q.first.0 0) ps) c.args.modes.now ≡ true) (sym parts) c.requires.modes) c.loop-k-test.true c.part-item.is
