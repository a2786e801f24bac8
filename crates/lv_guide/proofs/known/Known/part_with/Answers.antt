-- what is joined is known of these slots
use Rattle.lv_guide.proofs.known.Known.part_with.Goals as goal

pub returns-in-Some : goal.returns-in-Some
returns-in-Some c = c.part_with.ensures c.args.self.now c.args.slots (rw c.in-Some.is at c.joined.ensures)
