-- the choices gone through are taken out where they rank after the first
use Rattle.lv_search_guide.specs.First.{IsKeptBefore}
use Rattle.lv_search_guide.proofs.behind.kept_before.Given as goal

abbrev pub invariant-loop-choice : goal.invariant-loop-choice
invariant-loop-choice l = IsKeptBefore l.costs l.first l.mask l.kept
