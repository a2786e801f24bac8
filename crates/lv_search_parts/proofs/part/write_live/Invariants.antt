-- the pairs to come are held where all are, and those left and those to come say what all say, where all are inside
use Rattle.std.proofs.Common.{◌≡◌, true, ◌++◌, drop, map}
use Rattle.std.specs.List.{list_all}
use Rattle.lv_search_parts.specs.Slots.{pair_in, is_inside}
use Rattle.lv_search_parts.specs.Parts.{is_held, IsOpenOf}
use Rattle.lv_search_parts.proofs.part.write_live.Given as goal

abbrev pub invariant-loop-pair : goal.invariant-loop-pair
invariant-loop-pair l =
    record {
      rest : list_all (is_held l.marks l.masks) (drop l.pair-index l.pairs) ≡ list_all (is_held l.marks l.masks) l.pairs;
      open_left : is_inside l.marks l.pairs ≡ true → IsOpenOf l.masks (map (pair_in l.marks) l.pairs) (l.left.items ++ drop l.pair-index (map (pair_in l.marks) l.pairs));
    }
