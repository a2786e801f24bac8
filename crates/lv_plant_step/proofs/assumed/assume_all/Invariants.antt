-- what is assumed now and the literals left say what was assumed first and all literals
use Rattle.std.proofs.Common.{drop}
use Rattle.lv_plant_step.proofs.AssumedLemmas.{SaysSoFar}
use Rattle.lv_plant_step.proofs.assumed.assume_all.Given as goal

abbrev pub invariant-loop-lit : goal.invariant-loop-lit
invariant-loop-lit l = SaysSoFar l.initial.assumed l.assumed (drop l.lit-index l.lits) l.lits
