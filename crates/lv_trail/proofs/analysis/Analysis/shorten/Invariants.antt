-- what is needed stays among the entries up to the place
use Rattle.std.proofs.Common.{◌≤◌, ◌+◌, take}
use Rattle.lv_trail.specs.Trail.{lits_of}
use Rattle.lv_trail.specs.Analysis.{IsPending}
use Rattle.lv_trail.proofs.analysis.Analysis.shorten.Given as goal

abbrev pub invariant-loop-at : goal.invariant-loop-at
invariant-loop-at l =
    record {
      within : l.at ≤ l.place;
      pending : IsPending l.reasons.set.now l.reasons.log.now l.entries (lits_of (take (l.place + 1) l.entries)) l.self.seen.marks.items l.self.hints.items;
    }

abbrev pub decreases-loop-at : goal.decreases-loop-at
decreases-loop-at l = l.at
