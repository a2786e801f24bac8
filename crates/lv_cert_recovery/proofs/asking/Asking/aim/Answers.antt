-- of the model
use Rattle.std.proofs.Common.{◌≡◌, true, subst}
use Rattle.lv_model.specs.WellFormed.{is_well_formed}
use Rattle.lv_cert_recovery.specs.Asking.{Asked}
use Rattle.lv_cert_recovery.proofs.asking.Asking.aim.Goals as goal

pub returns-clause-well_formed : goal.returns-clause-well_formed
returns-clause-well_formed c = subst (λ (a : Asked). is_well_formed a.plant ≡ true) c.self.view_is c.self.invariant.well_formed
