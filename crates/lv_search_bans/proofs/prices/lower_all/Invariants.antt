-- what the slots left lower is what all lower
use Rattle.std.proofs.Common.{◌≡◌, length, drop}
use Rattle.lv_search_bans.specs.Prices.{lowered_all}
use Rattle.lv_search_bans.proofs.prices.lower_all.Given as goal

abbrev pub invariant-loop-set : goal.invariant-loop-set
invariant-loop-set l =
    record {
      rest : lowered_all l.masks l.by l.rows.items (drop l.set-index l.sets) ≡ lowered_all l.masks l.by l.fn.rows.items l.sets;
      long : length l.rows.items ≡ length l.fn.rows.items;
    }
