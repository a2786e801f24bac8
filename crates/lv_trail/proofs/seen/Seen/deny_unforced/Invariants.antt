-- what is left gives the rest of the clause
use Rattle.std.proofs.Common.{◌≡◌, ◌++◌, drop}
use Rattle.lv_trail.specs.Trail.{unforced}
use Rattle.lv_trail.specs.Analysis.{denial}
use Rattle.lv_trail.proofs.seen.Seen.deny_unforced.Given as goal

abbrev pub invariant-loop-entry : goal.invariant-loop-entry
invariant-loop-entry l = l.clause.items ++ denial l.self.marks.items (unforced (drop l.entry-index l.entries)) ≡ denial l.self.marks.items (unforced l.entries)
