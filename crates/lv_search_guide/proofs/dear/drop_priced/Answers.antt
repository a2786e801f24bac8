-- one slot more
use Rattle.std.proofs.Common.{rules, [], sym, ◌∙◌}
use Rattle.lv_search_guide.proofs.DearLemmas.{keeps_all, item_at}
use Rattle.lv_search_guide.proofs.dear.drop_priced.Goals as goal

pub loop-slot-init : goal.loop-slot-init
loop-slot-init c slots conflicts b = keeps_all slots conflicts c.args.under c.args.masks.now

pub loop-slot-preserved : goal.loop-slot-preserved
loop-slot-preserved c slots conflicts b = c.drop_at.ensures slots conflicts c.args.masks.now c.args.rows.now (search rules)
    (item_at c.args.rows.now c.loop-slot.slot [] c.index-rows-slot.result (search rules) ∙ sym c.index-rows-slot.is) b (c.loop-slot.invariant slots conflicts b)
