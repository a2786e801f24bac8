use Rattle.std.proofs.Common.{◌≡◌, ◌++◌, drop}
use Rattle.std.specs.List.{flat_map}
use Rattle.lv_reply.specs.Labels.{label_line}
use Rattle.lv_reply.proofs.labels.push_lines.Given as goal

-- what was added, with the lines of the labels that are left, is all
abbrev pub invariant-loop-label : goal.invariant-loop-label
invariant-loop-label l = l.out.items ++ flat_map (label_line l.model) (drop l.label-index l.labels) ≡ l.initial.out.items ++ flat_map (label_line l.model) l.labels
