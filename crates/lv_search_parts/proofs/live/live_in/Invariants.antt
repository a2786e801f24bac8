-- what is left of the conflicts gone through
use Rattle.std.proofs.Common.{take}
use Rattle.lv_search_parts.specs.Parts.{IsLiveOf}
use Rattle.lv_search_parts.proofs.live.live_in.Given as goal

abbrev pub invariant-loop-conflict : goal.invariant-loop-conflict
invariant-loop-conflict l = IsLiveOf (take l.conflict-index l.conflicts) l.masks l.live.items
