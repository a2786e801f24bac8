-- bound and prices hold for the bans gone through
use Rattle.std.proofs.Common.{◌≡◌, List, length}
use Rattle.lv_base.specs.declared.ids.Cost.{Cost}
use Rattle.lv_search_bans.specs.Prices.{IsBound}
use Rattle.lv_search_bans.proofs.prices.raise_by_bans.Given as goal

abbrev pub invariant-loop-place : goal.invariant-loop-place
invariant-loop-place l =
    record {
      bound : (slots : List (List Cost)) → IsBound slots l.conflicts l.masks l.fn.low l.fn.rows.items → IsBound slots l.conflicts l.masks l.bound l.rows.items;
      long : length l.rows.items ≡ length l.fn.rows.items;
    }
