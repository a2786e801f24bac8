-- one slot more
use Rattle.std.proofs.Common.{◌∙◌}
use Rattle.lv_search_bans.proofs.prices.raise_by_slots.Goals as goal

pub loop-slot-preserved : goal.loop-slot-preserved
loop-slot-preserved c =
    record {
      bound = λ slots conflicts i. c.raise_by_slot-low.ensures.bound slots conflicts (c.loop-slot.invariant.bound slots conflicts i);
      long = c.raise_by_slot-low.ensures.long ∙ c.loop-slot.invariant.long;
    }
