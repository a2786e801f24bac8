-- the hints taken end well from what is left at the place at hand
use Rattle.std.proofs.Common.{◌≤◌, length}
use Rattle.lv_trail.specs.Trail.{lits_of}
use Rattle.lv_trail.specs.Analysis.{left_at, IsPending}
use Rattle.lv_trail.proofs.analysis.Analysis.go_back.Given as goal

abbrev pub invariant-loop-at : goal.invariant-loop-at
invariant-loop-at l =
    record {
      within : l.at ≤ length l.entries;
      pending : IsPending l.reasons.set.now l.reasons.log.now l.entries (lits_of (left_at l.at l.entries)) l.self.seen.marks.items l.self.hints.items;
    }

abbrev pub decreases-loop-at : goal.decreases-loop-at
decreases-loop-at l = l.at
