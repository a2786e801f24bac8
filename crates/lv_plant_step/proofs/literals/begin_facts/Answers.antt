-- there is a mode for each part
use Rattle.std.proofs.Common.{List, length, sym, ap, ◌∙◌}
use Rattle.lv_base.specs.declared.ids.ValId.{ValId}
use Rattle.lv_model.specs.declared.plant.Plant.{Plant}
use Rattle.lv_model.specs.declared.plant.Part.{Part}
use Rattle.lv_model.specs.Ranges.{plant_ranges}
use Rattle.lv_plant_step.proofs.AskedLemmas.{modes_long}
use Rattle.lv_plant_step.proofs.literals.begin_facts.Goals as goal

pub push_modes-requires : goal.push_modes-requires
push_modes-requires c =
    ap (λ (vs : List ValId). length vs) c.as_slice-2.ensures
    ∙ modes_long (plant_ranges c.args.model.now) c.args.model.now.parts c.args.asked.now.modes c.requires.modes
    ∙ sym (ap (λ (ps : List Part). length ps) (c.as_slice.ensures ∙ ap (λ (p : Plant). p.parts) c.plant-plant.ensures.plant))
