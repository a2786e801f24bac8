-- none of the entries passed was seen, nor any from the choice on
use Rattle.std.proofs.Common.{◌≡◌, ◌≤◌, take, IfSome, IfNone}
use Rattle.lv_trail.specs.Analysis.{needed, HasReason, IsApart}
use Rattle.lv_trail.proofs.analysis.Analysis.first_choice.Given as goal

abbrev pub invariant-loop-below : goal.invariant-loop-below
invariant-loop-below l =
    record {
      floor : l.floor ≤ l.below;
      within : l.below ≤ l.at;
      unseen : needed l.self.seen.marks.items (take l.at l.entries) ≡ needed l.self.seen.marks.items (take l.below l.entries);
      found : IfSome l.cut (λ cut. IsApart l.self.seen.marks.items l.entries l.floor l.at cut);
      forced : IfNone l.cut (HasReason l.entries l.at);
    }

abbrev pub decreases-loop-below : goal.decreases-loop-below
decreases-loop-below l = l.below
