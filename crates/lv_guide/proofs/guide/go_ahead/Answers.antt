-- what is done one after the other leaves the members without a known conflict the same
use Rattle.lv_guide.proofs.GuideLemmas.{same_on}
use Rattle.lv_guide.proofs.SplitLemmas.{whole_on}
use Rattle.lv_guide.proofs.guide.go_ahead.Goals as goal

pub end_splits-requires-clause-whole : goal.end_splits-requires-clause-whole
end_splits-requires-clause-whole c =
    whole_on c.args.grid.now c.args.known.now c.args.queue.now.entries c.split_ahead.new.queue.entries c.args.course.now.whole c.in_ok-course.ensures c.requires.whole

pub returns-clause-same : goal.returns-clause-same
returns-clause-same c =
    same_on c.args.grid.now c.args.known.now c.args.queue.now.entries c.end_splits.new.queue.entries c.look_ahead.new.queue.entries
    (same_on c.args.grid.now c.args.known.now c.args.queue.now.entries c.split_ahead.new.queue.entries c.end_splits.new.queue.entries c.in_ok-course.ensures c.in_ok-end_splits.ensures.same)
    c.in_ok-look_ahead.ensures.same

pub returns-clause-whole : goal.returns-clause-whole
returns-clause-whole c =
    whole_on c.args.grid.now c.args.known.now c.end_splits.new.queue.entries c.look_ahead.new.queue.entries c.end_splits.new.course.whole c.in_ok-look_ahead.ensures.same c.in_ok-end_splits.ensures.whole
