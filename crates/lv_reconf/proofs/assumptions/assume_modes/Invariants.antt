-- what is assumed so far and the modes left say what all say
use Rattle.std.proofs.Common.{drop}
use Rattle.lv_meaning.specs.Recovers.{has_modes}
use Rattle.lv_reconf.specs.Assuming.{AssumesSoFar}
use Rattle.lv_reconf.proofs.assumptions.assume_modes.Given as goal

abbrev pub invariant-loop-k : goal.invariant-loop-k
invariant-loop-k l = AssumesSoFar l.compiled l.initial.lits.items l.lits.items (has_modes (drop l.k l.compiled.parts) (drop l.k l.modes)) (has_modes l.compiled.parts l.modes)
