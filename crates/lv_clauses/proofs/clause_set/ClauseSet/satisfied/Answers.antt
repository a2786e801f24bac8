-- the iterator begins with the clauses present
use Rattle.std.proofs.Common.{◌∙◌}
use Rattle.lv_clauses.proofs.EntryLemmas.{all_entries_hold}
use Rattle.lv_clauses.proofs.clause_set.ClauseSet.satisfied.Goals as goal

pub loop-clause-init : goal.loop-clause-init
loop-clause-init c =
    record {
      can_next = tt;
      is_finite = tt;
      rest = rw (c.into_iter-clause-iterator.ensures.into_iter_gives ∙ c.iter-clause-items.ensures.rest, ← c.self.view_is) (all_entries_hold c.args.values.now 0 c.self.inside.clauses.slots);
    }
