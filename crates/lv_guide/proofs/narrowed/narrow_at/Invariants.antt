-- the members without conflict are those of the box at the start
use Rattle.lv_search_bans.specs.Narrow.{IsNoMoreBy}
use Rattle.lv_guide.proofs.narrowed.narrow_at.Given as goal

abbrev pub invariant-loop-place : goal.invariant-loop-place
invariant-loop-place l = IsNoMoreBy l.conflicts l.fn.masks l.masks
