-- the values up to the place are settled
use Rattle.std.proofs.Common.{◌≡◌}
use Rattle.lv_plant_step.specs.declared.asked.Asked.{Asked}
use Rattle.lv_plant_step.specs.Finding.{CanLead, IsLed}
use Rattle.lv_plant_step.proofs.stepper.PlantStepper.settle_all.Given as goal

abbrev pub invariant-loop-place : goal.invariant-loop-place
invariant-loop-place l =
    record {
      self : l.self ≡ l.initial.self;
      can : CanLead l.initial.self l.lead;
      led : (asked : Asked) → IsLed l.initial.self asked 0 l.initial.lead → IsLed l.initial.self asked l.place l.lead;
    }
