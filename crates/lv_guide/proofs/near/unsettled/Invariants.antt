-- the pairs found and those to come are all
use Rattle.std.proofs.Common.{◌≡◌, ◌++◌, drop}
use Rattle.lv_guide.specs.Near.{contained_pairs, unsettled}
use Rattle.lv_guide.proofs.near.unsettled.Given as goal

abbrev pub invariant-loop-conflict : goal.invariant-loop-conflict
invariant-loop-conflict l = l.pairs.items ++ contained_pairs l.choices (drop l.conflict-index l.conflicts) ≡ unsettled l.masks l.conflicts l.choices
