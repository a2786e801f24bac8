-- a zone with a member that contains no known conflict is kept by the first of these, another no longer
use Rattle.lv_guide.proofs.GuideLemmas.{looked_again, not_looked_again}
use Rattle.lv_guide.proofs.SplitLemmas.{front_near}
use Rattle.lv_guide.proofs.guide.look_again.Goals as goal

pub least_free_near-requires : goal.least_free_near-requires
least_free_near-requires c = front_near c.args.grid.now c.args.known.now c.args.queue.now.entries c.in-Some.before c.in-Some.zone c.pop_first.new.self.entries c.in-Some.ensures.removal c.requires.kept

pub returns-in-Some-2-clause-again : goal.returns-in-Some-2-clause-again
returns-in-Some-2-clause-again c =
    looked_again c.args.grid.now c.args.known.now c.args.queue.now.entries c.in-Some.before c.in-Some.zone c.pop_first.new.self.entries c.in-Some.ensures.removal c.requires.kept c.requires.stale
    c.in-Some-2.rank c.insert.new.self.entries (rw c.in-Some-2.is at c.in_ok-rank-in-Some.ensures.least) c.in_ok-insert-in-Some-2.ensures.entries

pub returns-in-Some-clause-again : goal.returns-in-Some-clause-again
returns-in-Some-clause-again c =
    not_looked_again c.args.grid.now c.args.known.now c.args.queue.now.entries c.in-Some.before c.in-Some.zone c.pop_first.new.self.entries c.in-Some.ensures.removal c.requires.kept c.requires.stale
    (rw c.in-None-2.is at c.in_ok-rank-in-Some.ensures.least)
