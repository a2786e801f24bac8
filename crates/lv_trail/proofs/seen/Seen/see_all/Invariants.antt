-- seeing what is left sees all
use Rattle.std.proofs.Common.{◌≡◌, drop}
use Rattle.lv_trail.specs.Analysis.{seen_all}
use Rattle.lv_trail.proofs.seen.Seen.see_all.Given as goal

abbrev pub invariant-loop-lit : goal.invariant-loop-lit
invariant-loop-lit l = seen_all l.self.marks.items (drop l.lit-index l.lits) ≡ seen_all l.fn.self.marks.items l.lits
