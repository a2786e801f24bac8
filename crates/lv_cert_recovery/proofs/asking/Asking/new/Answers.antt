-- what is kept is the plant's
use Rattle.lv_cert_recovery.proofs.asking.Asking.new.Goals as goal

pub invariant_of-result : goal.invariant_of-result
invariant_of-result c =
    record {
      well_formed = rw c.plant-plant.ensures.plant at c.plant-plant.ensures.well_formed;
      of_plant = c.requires.system;
      asked = c.requires.asked;
      vars_are = c.in_ok-controls.ensures.controls;
    }
