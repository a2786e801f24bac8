-- what was added and the labels of the variables that are left are all
use Rattle.std.proofs.Common.{◌≡◌, ◌++◌, filter, drop}
use Rattle.lv_labels.specs.Values.{booleans_at}
use Rattle.lv_labels.specs.Labels.{labels_from}
use Rattle.lv_labels.specs.Assuming.{is_on_trail}
use Rattle.lv_labels.proofs.reading.push_labels.Given as goal

abbrev pub invariant-loop-x : goal.invariant-loop-x
invariant-loop-x l =
    l.out.items ++ filter (is_on_trail l.ltms.trail l.values) (labels_from l.moment l.x (drop l.x (booleans_at l.values l.moment).sizes))
    ≡ l.initial.out.items ++ filter (is_on_trail l.ltms.trail l.values) (labels_from l.moment 0 (booleans_at l.values l.moment).sizes)
