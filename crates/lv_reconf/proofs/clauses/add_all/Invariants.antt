-- what is added so far and the clauses left say what all say
use Rattle.std.proofs.Common.{◌≡◌, Bool, List, ◌&&◌, drop}
use Rattle.std.specs.List.{list_all}
use Rattle.lv_clauses.specs.Literals.{clause_holds}
use Rattle.lv_clauses.specs.ClauseMap.{satisfies}
use Rattle.lv_reconf.proofs.clauses.add_all.Given as goal

abbrev pub invariant-loop-clause : goal.invariant-loop-clause
invariant-loop-clause l = record {
  bools : l.solver.set.bools ≡ l.initial.solver.set.bools;
  says : (values : List Bool)
      → (satisfies values l.solver.set.slots && list_all (clause_holds values) (drop l.clause-index l.clauses)) ≡ (satisfies values l.initial.solver.set.slots && list_all (clause_holds values) l.clauses);
}
