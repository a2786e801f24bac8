-- the slots gone through lost the choices that are too dear
use Rattle.std.proofs.Common.{List}
use Rattle.lv_base.specs.declared.ids.Cost.{Cost}
use Rattle.lv_base.specs.declared.search.Pair.{Pair}
use Rattle.lv_search_guide.specs.Dear.{KeepsUnder}
use Rattle.lv_search_bans.specs.Prices.{IsBound}
use Rattle.lv_search_guide.proofs.dear.drop_priced.Given as goal

abbrev pub invariant-loop-slot : goal.invariant-loop-slot
invariant-loop-slot l = (slots : List (List Cost)) (conflicts : List (List Pair)) → IsBound slots conflicts l.fn.masks l.low l.rows → KeepsUnder slots conflicts l.under l.fn.masks l.masks
