-- the places so far and those of what is left are all, and what is left decides
use Rattle.std.proofs.Common.{◌≡◌, ◌++◌, ◌&&◌, drop, nat_lt}
use Rattle.std.specs.List.{list_all}
use Rattle.lv_meaning.specs.CandidateLaws.{are_moves}
use Rattle.lv_cert_meaning.specs.Counting.{places_of}
use Rattle.lv_cert_meaning.proofs.candidates.moves_from.Given as goal

abbrev pub invariant-loop-k : goal.invariant-loop-k
invariant-loop-k l = record {
  places : l.out.items ++ places_of (drop l.k l.ns) ≡ places_of l.ns;
  are : (list_all (nat_lt 0) (drop l.k l.ns) && are_moves l.plant.types (drop l.k l.plant.parts) (drop l.k l.modes) (places_of (drop l.k l.ns)))
      ≡ (list_all (nat_lt 0) l.ns && are_moves l.plant.types l.plant.parts l.modes (places_of l.ns));
}
