-- the choices so far and those of what is left are all, and what is left decides
use Rattle.std.proofs.Common.{◌≡◌, ◌++◌, All, length}
use Rattle.lv_cert_meaning.specs.Counting.{are_pairs_of, pairs_in}
use Rattle.lv_cert_meaning.specs.Fitting.{IsPairOf}
use Rattle.lv_cert_meaning.proofs.pairs.pairs_in.Given as goal

abbrev pub invariant-loop-left : goal.invariant-loop-left
invariant-loop-left l = record {
  pairs : l.out.items ++ pairs_in l.left ≡ pairs_in l.ns;
  are : are_pairs_of l.counts l.left ≡ are_pairs_of l.counts l.ns;
  within : All (IsPairOf l.counts) l.out.items;
}

abbrev pub decreases-loop-left : goal.decreases-loop-left
decreases-loop-left l = length l.left
