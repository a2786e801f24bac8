-- the denials that stand there and those that are left are all
use Rattle.std.proofs.Common.{◌≡◌, ◌++◌, map, drop}
use Rattle.lv_model.specs.Denials.{denial}
use Rattle.lv_model.proofs.counts.denials_of.Given as goal

abbrev pub invariant-loop-m : goal.invariant-loop-m
invariant-loop-m l = l.out.items ++ map (denial l.sizes) (drop l.m-index l.moves) ≡ map (denial l.sizes) l.moves
