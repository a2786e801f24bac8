-- one slot more
use Rattle.std.specs.Option.{unwrap_or}
use Rattle.lv_search_parts.specs.Slots.{put_in}
use Rattle.lv_search_parts.proofs.PartLemmas.{put_cons, taken_more}
use Rattle.lv_search_parts.proofs.part.put_in.Goals as goal

pub loop-slot-preserved : goal.loop-slot-preserved
loop-slot-preserved c =
    taken_more put_in unwrap_or put_cons c.loop-slot.new.items c.push.new.self.items c.args.marks.now c.loop-slot.rest.now c.taken-choice.result.1.now c.args.outer.now _ c.loop-slot.slot c.unwrap_or.result c.taken-choice.result.0 _ _ c.loop-slot-test.true
    c.requires.long c.taken-choice.ensures.first c.taken-choice.ensures.rest c.unwrap_or.ensures c.in_ok-push.ensures.items c.loop-slot.invariant
