-- the trail goes on, and each choice marks a boolean
use Rattle.std.proofs.Common.{◌-◌, None, length}
use Rattle.lv_trail.specs.Trail.{IsExtended}
use Rattle.lv_sat.proofs.search.Search.extend.Given as goal

abbrev pub invariant-choices : goal.invariant-choices
invariant-choices l = IsExtended l.reasons.set.now l.reasons.log.now l.fn.self.trail.entries.items l.self.trail.marks.items l.self.trail.entries.items None

abbrev pub decreases-choices : goal.decreases-choices
decreases-choices l = l.reasons.set.now.bools - length l.self.trail.entries.items
