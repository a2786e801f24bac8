-- the bans of the rows gone through rule out no more than all conflicts
use Rattle.lv_search_bans.specs.Bans.{AreBans}
use Rattle.lv_search_bans.proofs.bans.bans_of.Given as goal

abbrev pub invariant-loop-row : goal.invariant-loop-row
invariant-loop-row l = AreBans l.conflicts l.bans.items
