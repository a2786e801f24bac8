-- the clauses left are all true exactly where the clauses present are
use Rattle.std.proofs.Common.{◌≡◌}
use Rattle.std.specs.List.{list_all}
use Rattle.lv_clauses.specs.ClauseMap.{satisfies}
use Rattle.lv_clauses.proofs.EntryLemmas.{entry_holds}
use Rattle.lv_clauses.proofs.clause_set.ClauseSet.satisfied.Given as goal

abbrev pub invariant-loop-clause : goal.invariant-loop-clause
invariant-loop-clause l =
    record {
      can_next : (goal.iterator-loop-clause).can_next l.clause-iterator;
      is_finite : (goal.iterator-loop-clause).is_finite l.clause-iterator;
      rest : list_all (entry_holds l.values) l.clause-iterator ≡ satisfies l.values l.self.slots;
    }
