-- the sets made and those of the pairs left are all
use Rattle.std.proofs.Common.{◌≡◌, ◌++◌, map, drop}
use Rattle.lv_search_bans.specs.Bans.{set_of}
use Rattle.lv_search_bans.proofs.bans.write_sets.Given as goal

abbrev pub invariant-loop-pair : goal.invariant-loop-pair
invariant-loop-pair l = l.sets.items ++ map set_of (drop l.pair-index l.pairs) ≡ map set_of l.pairs
