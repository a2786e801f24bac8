use Rattle.std.proofs.Common.{IsTrue, subst, sym}
use Rattle.lv_model.specs.declared.plant.Plant.{Plant}
use Rattle.lv_model.specs.WellFormed.{is_well_formed}
use Rattle.lv_checker.proofs.checker.model_of_draft.Goals as goal

pub of_well_formed-requires : goal.of_well_formed-requires
of_well_formed-requires c = subst (λ (p : Plant). IsTrue (is_well_formed p)) (sym c.into_plant.ensures) c.requires
