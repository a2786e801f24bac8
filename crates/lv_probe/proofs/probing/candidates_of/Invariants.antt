-- what was added, with the candidates of the ranks that are left, is all
use Rattle.std.proofs.Common.{◌≡◌, ◌++◌, drop, map}
use Rattle.lv_meaning.specs.lv_boxes.Walk.{candidate_of}
use Rattle.lv_probe.proofs.probing.candidates_of.Given as goal

abbrev pub invariant-loop-rank : goal.invariant-loop-rank
invariant-loop-rank l = l.out.items ++ map candidate_of (drop l.rank-index l.ranks) ≡ map candidate_of l.ranks
