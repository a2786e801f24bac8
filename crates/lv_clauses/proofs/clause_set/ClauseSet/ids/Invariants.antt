-- the numbers found and those of the clauses left are those of the clauses present
use Rattle.std.proofs.Common.{◌≡◌, map, ◌++◌}
use Rattle.lv_clauses.specs.ClauseMap.{ids_of}
use Rattle.lv_clauses.proofs.EntryLemmas.{entry_id}
use Rattle.lv_clauses.proofs.clause_set.ClauseSet.ids.Given as goal

abbrev pub invariant-loop-key : goal.invariant-loop-key
invariant-loop-key l =
    record {
      can_next : (goal.iterator-loop-key).can_next l.key-iterator;
      is_finite : (goal.iterator-loop-key).is_finite l.key-iterator;
      rest : l.ids ++ map entry_id l.key-iterator ≡ ids_of l.self.slots;
    }
