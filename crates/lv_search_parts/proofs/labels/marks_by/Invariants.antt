-- the marks made and those to come are all
use Rattle.std.proofs.Common.{◌≡◌, ◌++◌, map, drop}
use Rattle.lv_search_parts.specs.Labels.{is_listed}
use Rattle.lv_search_parts.proofs.labels.marks_by.Given as goal

abbrev pub invariant-loop-label : goal.invariant-loop-label
invariant-loop-label l = l.marks.items ++ map (is_listed l.listed) (drop l.label-index l.labels) ≡ map (is_listed l.listed) l.labels
