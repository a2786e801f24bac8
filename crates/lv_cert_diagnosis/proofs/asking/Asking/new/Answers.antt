-- what is kept is the plant's
use Rattle.lv_cert_diagnosis.proofs.asking.Asking.new.Goals as goal

pub invariant_of-result : goal.invariant_of-result
invariant_of-result c =
    record {
      well_formed = rw c.plant-plant.ensures.plant at c.plant-plant.ensures.well_formed;
      of_plant = c.requires.system;
      fit = c.requires.in_range;
      stated_are = c.in_ok-fact_literals.ensures;
    }
