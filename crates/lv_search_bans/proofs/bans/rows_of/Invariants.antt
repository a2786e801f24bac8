-- the rows of the conflicts gone through rule out no more than all conflicts
use Rattle.lv_search_bans.specs.Bans.{AreBans}
use Rattle.lv_search_bans.proofs.bans.rows_of.Given as goal

abbrev pub invariant-loop-conflict : goal.invariant-loop-conflict
invariant-loop-conflict l = AreBans l.conflicts l.rows.items
