-- the members without conflict are those of the box at the start
use Rattle.std.specs.Prelude.{sum}
use Rattle.lv_search_bans.specs.Narrow.{IsNoMoreBy}
use Rattle.lv_search_bans.proofs.narrow.narrow.Given as goal

abbrev pub invariant-again : goal.invariant-again
invariant-again l = IsNoMoreBy l.conflicts l.fn.masks l.masks

abbrev pub decreases-again : goal.decreases-again
decreases-again l = sum l.masks
