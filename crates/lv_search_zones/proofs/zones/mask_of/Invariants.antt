-- the moves taken in and those left are all
use Rattle.std.proofs.Common.{◌≡◌, bit_or, drop}
use Rattle.lv_search_zones.specs.Moves.{mask_from, mask_of}
use Rattle.lv_search_zones.proofs.zones.mask_of.Given as goal

abbrev pub invariant-loop-n : goal.invariant-loop-n
invariant-loop-n l = bit_or l.mask (mask_from l.n l.mode.0 (drop l.n l.moves)) ≡ mask_of l.mode.0 l.moves
