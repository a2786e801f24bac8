-- the iterator begins with the clauses present
use Rattle.std.proofs.Common.{◌∙◌}
use Rattle.lv_clauses.proofs.EntryLemmas.{ids_of_entries}
use Rattle.lv_clauses.proofs.clause_set.ClauseSet.ids.Goals as goal

pub loop-key-init : goal.loop-key-init
loop-key-init c =
    record {
      can_next = tt;
      is_finite = tt;
      rest = rw (c.new-ids.ensures, c.into_iter-key-iterator.ensures.into_iter_gives ∙ c.iter-key-items.ensures.rest, ← c.self.view_is) (ids_of_entries 0 c.self.inside.clauses.slots);
    }
