-- those looked at are noted once
use Rattle.std.proofs.Common.{take}
use Rattle.lv_asking.proofs.OnceLemmas.{IsNotedOnce}
use Rattle.lv_asking.proofs.literals.each_once.Given as goal

abbrev pub invariant-loop-lit : goal.invariant-loop-lit
invariant-loop-lit l = IsNotedOnce l.bools (take l.lit-index l.lits) l.seen l.out.items
