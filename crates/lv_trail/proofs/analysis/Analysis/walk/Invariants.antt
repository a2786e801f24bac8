-- the hints taken end well from the place at hand
use Rattle.std.proofs.Common.{◌≤◌, length, take}
use Rattle.lv_trail.specs.Trail.{lits_of}
use Rattle.lv_trail.specs.Analysis.{IsPending}
use Rattle.lv_trail.proofs.analysis.Analysis.walk.Given as goal

abbrev pub invariant-loop-at : goal.invariant-loop-at
invariant-loop-at l =
    record {
      floor : l.floor ≤ l.at;
      within : l.at ≤ length l.entries;
      pending : IsPending l.reasons.set.now l.reasons.log.now l.entries (lits_of (take l.at l.entries)) l.self.seen.marks.items l.self.hints.items;
    }

abbrev pub decreases-loop-at : goal.decreases-loop-at
decreases-loop-at l = l.at
