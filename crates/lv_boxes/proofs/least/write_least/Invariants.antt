-- what is added up, with what the slots left cost, is what all slots cost, and likewise what is written
use Rattle.std.proofs.Common.{◌≡◌, ◌+◌, ◌*◌, ◌≤◌, ◌++◌, take, drop}
use Rattle.std.specs.Option.{option_map}
use Rattle.lv_boxes.specs.Members.{choices_cost}
use Rattle.lv_boxes.specs.Least.{cheapest_choices}
use Rattle.lv_boxes.proofs.least.write_least.Given as goal

abbrev pub invariant-loop-slot : goal.invariant-loop-slot
invariant-loop-slot l =
    record {
      sum : option_map (λ choices. l.total + choices_cost (drop l.slot l.slots) choices) (cheapest_choices (drop l.slot l.slots) (drop l.slot l.masks)) ≡ option_map (choices_cost l.slots) (cheapest_choices l.slots l.masks);
      bound : l.total ≤ l.slot * 1000000;
      written : option_map (λ choices. take l.slot l.out ++ choices) (cheapest_choices (drop l.slot l.slots) (drop l.slot l.masks)) ≡ cheapest_choices l.slots l.masks;
    }
