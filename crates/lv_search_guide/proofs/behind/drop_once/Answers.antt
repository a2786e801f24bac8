-- one slot more
use Rattle.std.proofs.Common.{sym, ap, ◌∙◌, ◌||◌, Bool, []}
use Rattle.lv_search_guide.proofs.DearLemmas.{item_at}
use Rattle.lv_search_guide.proofs.FirstLemmas.{drops_slot_by}
use Rattle.lv_search_guide.proofs.behind.drop_once.Goals.{then-changed, else-changed}
use Rattle.lv_search_guide.proofs.behind.drop_once.Goals as goal

pub loop-slot-preserved : goal.loop-slot-preserved
loop-slot-preserved c =
    elim c.if-changed.branch [
      | then-changed w ↦ λ conflicts are. drops_slot_by c.args.slots.now conflicts c.args.masks.now c.loop-slot.masks c.drop_at-more.new.masks c.args.loose.now c.loop-slot.changed c.drop_at-more.result c.if-changed.changed
          (w.changed-is ∙ w.if-changed.true ∙ sym (ap (λ (b : Bool). b || c.drop_at-more.result) w.if-changed.true)) are (c.loop-slot.invariant conflicts are)
          (λ now. c.drop_at-more.ensures c.args.slots.now conflicts c.loop-slot-test.true
          (item_at c.args.slots.now c.loop-slot.slot [] c.index-slots-slot.result c.loop-slot-test.true ∙ sym c.index-slots-slot.is ∙ sym c.as_slice.ensures) now)
      | else-changed w ↦ λ conflicts are. drops_slot_by c.args.slots.now conflicts c.args.masks.now c.loop-slot.masks c.drop_at-more.new.masks c.args.loose.now c.loop-slot.changed c.drop_at-more.result c.if-changed.changed
          (w.changed-is ∙ sym (ap (λ (b : Bool). b || c.drop_at-more.result) w.if-changed.false)) are (c.loop-slot.invariant conflicts are)
          (λ now. c.drop_at-more.ensures c.args.slots.now conflicts c.loop-slot-test.true
          (item_at c.args.slots.now c.loop-slot.slot [] c.index-slots-slot.result c.loop-slot-test.true ∙ sym c.index-slots-slot.is ∙ sym c.as_slice.ensures) now)
    ]
