-- what was found is loose and left
use Rattle.std.specs.Prelude.{IfSome}
use Rattle.lv_search_guide.specs.First.{IsLooseLeft}
use Rattle.lv_search_guide.proofs.behind.first_loose.Given as goal

abbrev pub invariant-loop-choice : goal.invariant-loop-choice
invariant-loop-choice l = IfSome l.first (IsLooseLeft l.costs l.loose l.mask)
