-- the numbers of the things so far
use Rattle.lv_system.specs.Encoding.{truth_in}
use Rattle.lv_system.proofs.DecodingLemmas.{AreNumbersTo}
use Rattle.lv_system.proofs.decoding.numbers_of.Given as goal

abbrev pub invariant-loop-thing : goal.invariant-loop-thing
invariant-loop-thing l = AreNumbersTo (truth_in l.values) l.bools l.thing l.out.items
