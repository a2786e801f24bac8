-- the places so far and those of what is left are all, and what is left decides
use Rattle.std.proofs.Common.{◌≡◌, ◌++◌, drop}
use Rattle.lv_cert_meaning.specs.Counting as Counting
use Rattle.lv_cert_meaning.specs.Counting.{are_of}
use Rattle.lv_cert_meaning.proofs.counting.places_of.Given as goal

abbrev pub invariant-loop-at : goal.invariant-loop-at
invariant-loop-at l = record {
  places : l.out.items ++ Counting.places_of (drop l.at l.ns) ≡ Counting.places_of l.ns;
  are : are_of (drop l.at l.counts) (drop l.at l.ns) ≡ are_of l.counts l.ns;
}
