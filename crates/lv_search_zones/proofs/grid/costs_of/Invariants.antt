-- the costs so far and those of the moves left are those of all moves
use Rattle.std.proofs.Common.{◌≡◌, ◌++◌, drop}
use Rattle.lv_search_zones.specs.Moves.{costs_of}
use Rattle.lv_search_zones.proofs.grid.costs_of.Given as goal

abbrev pub invariant-loop-m : goal.invariant-loop-m
invariant-loop-m l = l.costs.items ++ costs_of (drop l.m-index l.moves) ≡ costs_of l.moves
