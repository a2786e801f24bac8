-- the targets so far and those of the moves left are those of all moves
use Rattle.std.proofs.Common.{◌≡◌, ◌++◌, drop}
use Rattle.lv_search_zones.specs.Moves.{targets_of}
use Rattle.lv_search_zones.proofs.targets.targets_of.Given as goal

abbrev pub invariant-loop-m : goal.invariant-loop-m
invariant-loop-m l = l.targets.items ++ targets_of (drop l.m-index l.moves) ≡ targets_of l.moves
