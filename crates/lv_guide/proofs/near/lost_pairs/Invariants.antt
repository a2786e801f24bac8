-- those found, and those lost of the choices left, are those of all
use Rattle.std.proofs.Common.{◌≡◌, ◌++◌, not, drop, filter}
use Rattle.lv_boxes.specs.Laws.{pairs_from}
use Rattle.lv_search_parts.specs.Parts.{is_there}
use Rattle.lv_guide.specs.Near.{lost_pairs}
use Rattle.lv_guide.proofs.near.lost_pairs.Given as goal

abbrev pub invariant-loop-slot : goal.invariant-loop-slot
invariant-loop-slot l = l.lost.items ++ filter (λ p. not (is_there l.masks p)) (pairs_from l.slot (drop l.slot l.choices)) ≡ lost_pairs l.masks l.choices
