-- those looked at are marked
use Rattle.std.proofs.Common.{take}
use Rattle.lv_asking.proofs.RefuteLemmas.{AreMarked}
use Rattle.lv_asking.proofs.refutation.marks_of.Given as goal

abbrev pub invariant-loop-lit : goal.invariant-loop-lit
invariant-loop-lit l = AreMarked l.bools (take l.lit-index l.lits) l.marks
