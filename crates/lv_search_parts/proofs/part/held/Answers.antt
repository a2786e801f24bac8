-- a pair as one of the part
use Rattle.std.proofs.Common.{sym, ◌∙◌}
use Rattle.lv_search_parts.proofs.PartLemmas.{mark_at, not_marked_past}
use Rattle.lv_search_parts.proofs.HeldLemmas.{held_out, held_here}
use Rattle.lv_search_parts.proofs.part.held.Goals as goal
use Rattle.lv_search_parts.proofs.part.held.Goals.{then-slot-marks-via-then-slot-marks, then-slot-marks-via-else-slot-marks+then-not-marks-slot}

pub returns-then-slot-marks : goal.returns-then-slot-marks
returns-then-slot-marks c =
    elim c.then-slot-marks.branch [
      | then-slot-marks-via-then-slot-marks w ↦ held_out c.args.marks.now c.args.masks.now c.args.pair (not_marked_past c.args.marks.now c.args.pair.slot w.if-slot-marks.true)
      | then-slot-marks-via-else-slot-marks+then-not-marks-slot w ↦ held_out c.args.marks.now c.args.masks.now c.args.pair (sym (mark_at c.args.marks.now c.args.pair.slot) ∙ w.if-not-marks-slot.true)
    ]

pub returns-then-is_there : goal.returns-then-is_there
returns-then-is_there c =
    held_here c.args.marks.now c.args.places.now c.args.masks.now c.args.pair c.requires (sym (mark_at c.args.marks.now c.args.pair.slot) ∙ c.if-not-marks-slot.false) (sym c.is_there.ensures ∙ c.if-is_there.true)
