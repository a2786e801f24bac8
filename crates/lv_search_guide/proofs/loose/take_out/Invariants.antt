-- the choices gone through are taken out
use Rattle.std.proofs.Common.{take}
use Rattle.lv_search_guide.specs.First.{TakesOut}
use Rattle.lv_search_guide.proofs.loose.take_out.Given as goal

abbrev pub invariant-loop-pair : goal.invariant-loop-pair
invariant-loop-pair l = TakesOut (take l.pair-index l.pairs) l.fn.masks l.masks
