-- marks as the code reads them
use Rattle.lv_search_parts.proofs.PartLemmas.{mark_at, mark_past}
use Rattle.lv_search_parts.proofs.marks.is_marked.Goals as goal

pub returns-then-slot-marks : goal.returns-then-slot-marks
returns-then-slot-marks c = mark_at c.args.marks.now c.args.pair.slot

pub returns-else-slot-marks : goal.returns-else-slot-marks
returns-else-slot-marks c = mark_past c.args.marks.now c.args.pair.slot c.if-slot-marks.false
