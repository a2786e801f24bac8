-- one pair more
use Rattle.std.proofs.Common.{refl}
use Rattle.lv_search_parts.proofs.HeldLemmas.{held_begins, held_rest, held_left, held_ends}
use Rattle.lv_search_parts.proofs.part.write_live.Goals as goal

pub loop-pair-init : goal.loop-pair-init
loop-pair-init c = record { rest = refl; open_left = held_begins c.args.marks.now c.args.masks.now c.args.pairs.now c.clear.new.self.items c.requires.rising c.clear.ensures.items }

pub loop-pair-preserved : goal.loop-pair-preserved
loop-pair-preserved c =
    record {
      rest = held_rest c.args.marks.now c.args.masks.now c.args.pairs.now c.loop-pair.pair-index _ c.in-Some.placed _ c.loop-pair-test.true c.in-Some.ensures c.loop-pair.invariant.rest;
      open_left =
          held_left c.args.marks.now c.args.masks.now c.args.pairs.now c.loop-pair.left.items c.push_open.new.left.items c.loop-pair.pair-index _ c.in-Some.placed c.loop-pair-test.true c.in-Some.ensures
          c.in_ok-push_open-in-Some.ensures c.loop-pair.invariant.open_left;
    }

pub returns-clause-left : goal.returns-clause-left
returns-clause-left c all =
    held_ends c.args.marks.now c.args.masks.now c.args.pairs.now c.loop-pair.left.items c.loop-pair.pair-index c.loop-pair-test.false c.loop-pair.invariant.rest c.loop-pair.invariant.open_left
