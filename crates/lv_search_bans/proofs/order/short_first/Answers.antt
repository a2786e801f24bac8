-- one ban more
use Rattle.lv_search_bans.proofs.order.short_first.Goals as goal

pub loop-turn-preserved : goal.loop-turn-preserved
loop-turn-preserved c conflicts a = c.in_ok-push_at.ensures conflicts a (c.loop-turn.invariant conflicts a)
