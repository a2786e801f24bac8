-- one slot more
use Rattle.std.proofs.Common.{◌≡◌, get_or, sym, ◌∙◌, ap}
use Rattle.std.specs.Option.{option_map_or}
use Rattle.lv_boxes.specs.Masks.{only_choice}
use Rattle.lv_search_parts.specs.Parts.{fixed}
use Rattle.lv_search_parts.proofs.PartLemmas.{fixed_cons, taken_more}
use Rattle.lv_search_parts.proofs.part.fixed.Goals as goal
use Rattle.lv_search_parts.proofs.part.fixed.Goals.{in-Some, in-None}

pub loop-slot-preserved : goal.loop-slot-preserved
loop-slot-preserved c =
    let word : c.match-choice.push ≡ option_map_or (only_choice (get_or c.args.masks.now c.loop-slot.slot 0)) c.taken-choice.result.0 (get_or c.args.masks.now c.loop-slot.slot 0) = elim c.match-choice.branch [
      | in-Some w ↦ w.push-is ∙ w.only.ensures ∙ sym (ap (λ first. option_map_or (only_choice (get_or c.args.masks.now c.loop-slot.slot 0)) first (get_or c.args.masks.now c.loop-slot.slot 0)) w.in-Some.is)
      | in-None w ↦ w.push-is ∙ sym (ap (λ first. option_map_or (only_choice (get_or c.args.masks.now c.loop-slot.slot 0)) first (get_or c.args.masks.now c.loop-slot.slot 0)) w.in-None.is)
    ] in
    taken_more fixed (λ first mask. option_map_or (only_choice mask) first mask) fixed_cons c.loop-slot.new.items c.push.new.self.items c.args.marks.now c.loop-slot.rest.now c.taken-choice.result.1.now c.args.masks.now _ c.loop-slot.slot c.match-choice.push
    c.taken-choice.result.0 _ 0 c.loop-slot-test.true c.requires.long c.taken-choice.ensures.first c.taken-choice.ensures.rest word c.in_ok-push.ensures.items c.loop-slot.invariant
