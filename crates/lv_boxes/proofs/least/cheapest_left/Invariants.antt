-- the first among the cheapest choices looked at
use Rattle.std.proofs.Common.{◌≡◌, ◌<◌, length}
use Rattle.std.specs.Option.{ForSome}
use Rattle.lv_boxes.specs.Least.{cheapest_below}
use Rattle.lv_boxes.proofs.least.cheapest_left.Given as goal

abbrev pub invariant-loop-n : goal.invariant-loop-n
invariant-loop-n l =
    record {
      first : l.best ≡ cheapest_below l.costs l.mask l.n;
      within : ForSome l.best (λ choice. choice < length l.costs);
    }
