-- what is summed up and what is to come is all
use Rattle.std.proofs.Common.{◌≡◌, ◌+◌, ◌*◌, ◌≤◌, drop}
use Rattle.lv_boxes.specs.Members.{choices_cost}
use Rattle.lv_guide.proofs.near.cost_of.Given as goal

abbrev pub invariant-loop-slot : goal.invariant-loop-slot
invariant-loop-slot l =
    record {
      sum : l.total + choices_cost (drop l.slot l.slots) (drop l.slot l.choices) ≡ choices_cost l.slots l.choices;
      bound : l.total ≤ l.slot * 1000000;
    }
