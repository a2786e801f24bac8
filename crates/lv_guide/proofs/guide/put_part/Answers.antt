-- a part is put in by what few steps tell of it
use Rattle.lv_guide.proofs.GuideLemmas.{ruled_if_free, put_in_beside, not_put_in_beside}
use Rattle.lv_guide.proofs.guide.put_part.Goals as goal

pub first_beside-requires-clause-free : goal.first_beside-requires-clause-free
first_beside-requires-clause-free c = ruled_if_free c.args.known.now c.args.listed.now c.requires.free

pub returns-in-Some : goal.returns-in-Some
returns-in-Some c =
    put_in_beside c.args.grid.now c.args.known.now c.args.part c.in-Some.found.0 c.in-Some.found.1 c.args.queue.now.entries c.insert.new.self.entries c.requires.room (rw c.in-Some.is at c.in_ok-found.ensures)
    c.in_ok-insert-in-Some.ensures.entries

pub returns : goal.returns
returns c = not_put_in_beside c.args.grid.now c.args.known.now c.args.part c.args.queue.now.entries c.requires.room (rw c.in-None.is at c.in_ok-found.ensures)
