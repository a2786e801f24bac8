-- the members without conflict are those of the box at the start
use Rattle.lv_search_bans.specs.Narrow.{ChangedTells}
use Rattle.lv_search_bans.proofs.narrow.narrow_once.Given as goal

abbrev pub invariant-loop-place : goal.invariant-loop-place
invariant-loop-place l = ChangedTells l.conflicts l.fn.masks l.masks l.changed
