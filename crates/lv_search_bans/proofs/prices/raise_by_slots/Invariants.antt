-- bound and prices hold for the slots gone through
use Rattle.std.proofs.Common.{◌≡◌, List, length}
use Rattle.lv_base.specs.declared.ids.Cost.{Cost}
use Rattle.lv_base.specs.declared.search.Pair.{Pair}
use Rattle.lv_search_bans.specs.Prices.{IsBound}
use Rattle.lv_search_bans.proofs.prices.raise_by_slots.Given as goal

abbrev pub invariant-loop-slot : goal.invariant-loop-slot
invariant-loop-slot l =
    record {
      bound : (slots : List (List Cost)) (conflicts : List (List Pair)) → IsBound slots conflicts l.masks 0 l.fn.rows.items → IsBound slots conflicts l.masks l.low l.rows.items;
      long : length l.rows.items ≡ length l.fn.rows.items;
    }
