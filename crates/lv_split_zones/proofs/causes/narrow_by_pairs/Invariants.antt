-- what is left of the pairs makes of the masks what all would
use Rattle.std.proofs.Common.{◌≡◌, drop}
use Rattle.lv_split_zones.specs.Splits.{masks_of_part}
use Rattle.lv_split_zones.proofs.causes.narrow_by_pairs.Given as goal

abbrev pub invariant-loop-place : goal.invariant-loop-place
invariant-loop-place l = masks_of_part l.masks l.place (drop l.place l.pairs) l.part ≡ masks_of_part l.fn.masks 0 l.pairs l.part
