-- the members without conflict are those of the box at the start
use Rattle.std.specs.Prelude.{◌+◌, ◌*◌, length, sum}
use Rattle.lv_search_bans.specs.Narrow.{IsNoMoreBy}
use Rattle.lv_search_bans.proofs.narrow.narrow_from.Given as goal

abbrev pub invariant-loop-slot : goal.invariant-loop-slot
invariant-loop-slot l = IsNoMoreBy l.conflicts l.fn.masks l.masks

abbrev pub decreases-loop-slot : goal.decreases-loop-slot
decreases-loop-slot l = 2 * sum l.masks + length l.changed.items
