-- the lead is what it was, and no plant step has one of the values tried
use Rattle.std.proofs.Common.{◌≡◌, take}
use Rattle.lv_plant_step.specs.declared.asked.Asked.{Asked}
use Rattle.lv_plant_step.specs.Finding.{NoneBelow, IsLed}
use Rattle.lv_plant_step.proofs.stepper.PlantStepper.settle.Given as goal

abbrev pub invariant-loop-v : goal.invariant-loop-v
invariant-loop-v l =
    record {
      self : l.self ≡ l.initial.self;
      lead : l.lead ≡ l.initial.lead;
      none : (asked : Asked) → IsLed l.initial.self asked l.place l.initial.lead → NoneBelow l.initial.self asked (take l.place l.initial.lead.values) l.v;
    }
