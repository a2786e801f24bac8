-- the rows filled are as the slots gone through
use Rattle.std.proofs.Common.{◌≡◌, length, take}
use Rattle.lv_search_bans.proofs.prices.fill_rows.Given as goal

abbrev pub invariant-loop-slot : goal.invariant-loop-slot
invariant-loop-slot l =
    record {
      filled : take l.slot l.rows.items ≡ take l.slot l.slots;
      long : length l.rows.items ≡ length l.slots;
    }
