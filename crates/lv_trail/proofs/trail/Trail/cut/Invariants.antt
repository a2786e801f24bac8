-- what is cut so far is a front that is a trail
use Rattle.std.proofs.Common.{◌≡◌, ◌≤◌, List, length, take}
use Rattle.lv_clauses.specs.ClauseMap.{ClauseMap}
use Rattle.lv_clauses.specs.declared.log.Step.{Step}
use Rattle.lv_trail.specs.Trail.{IsTrail}
use Rattle.lv_trail.proofs.trail.Trail.cut.Given as goal

abbrev pub invariant-loop-self : goal.invariant-loop-self
invariant-loop-self l =
    record {
      room : l.len ≤ length l.self.entries.items;
      entries : take l.len l.self.entries.items ≡ take l.len l.fn.self.entries.items;
      trail : (cs : ClauseMap) (log : List Step) → IsTrail cs log l.fn.self.marks.items l.fn.self.entries.items → IsTrail cs log l.self.marks.items l.self.entries.items;
    }

abbrev pub decreases-loop-self : goal.decreases-loop-self
decreases-loop-self l = length l.self.entries.items
