-- a zone is put in by its least member, if it has one
use Rattle.std.proofs.Common.{sym, ◌∙◌, ap}
use Rattle.std.specs.Prelude.{is_none}
use Rattle.lv_guide.proofs.GuideLemmas.{put_in, not_put_in}
use Rattle.lv_guide.proofs.guide.put.Goals as goal

pub returns-in_ok-insert : goal.returns-in_ok-insert
returns-in_ok-insert c =
    put_in c.args.grid.now c.args.zone c.in-Some.rank c.args.queue.now.entries c.insert.new.self.entries c.requires (rw c.in-Some.is at c.in_ok-rank.ensures.least) c.in_ok-insert.ensures.entries

pub returns-in_default : goal.returns-in_default
returns-in_default c =
    not_put_in c.args.grid.now c.args.zone c.args.queue.now.entries c.requires (sym c.in_ok-rank.ensures.none ∙ ap is_none c.in_default.is)
