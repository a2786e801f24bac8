-- what the part leaves of the conflicts inside among those gone through
use Rattle.std.proofs.Common.{take}
use Rattle.lv_search_parts.specs.Parts.{inner_of, IsLiveOf}
use Rattle.lv_search_parts.proofs.part.part_conflicts.Given as goal

abbrev pub invariant-loop-conflict : goal.invariant-loop-conflict
invariant-loop-conflict l = IsLiveOf (inner_of l.marks (take l.conflict-index l.conflicts)) l.masks l.inner.items
