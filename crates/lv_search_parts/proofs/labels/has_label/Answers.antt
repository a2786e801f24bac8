-- labels as the code reads them
use Rattle.lv_search_parts.proofs.LabelLemmas.{label_here, label_past}
use Rattle.lv_search_parts.proofs.labels.has_label.Goals as goal

pub returns-then-slot-labels : goal.returns-then-slot-labels
returns-then-slot-labels c = label_here c.args.labels.now c.args.pair.slot c.args.label 0 c.if-slot-labels.true

pub returns-else-slot-labels : goal.returns-else-slot-labels
returns-else-slot-labels c = label_past c.args.labels.now c.args.pair.slot c.args.label c.if-slot-labels.false
