-- the number that is encoded, if there is one, is none of those that were looked at
use Rattle.lv_system.specs.Encoding.{truth_in}
use Rattle.lv_system.proofs.DecodingLemmas.{IsPast}
use Rattle.lv_system.proofs.decoding.number_of.Given as goal

abbrev pub invariant-loop-number : goal.invariant-loop-number
invariant-loop-number l = IsPast (truth_in l.values) l.bools l.thing l.number
