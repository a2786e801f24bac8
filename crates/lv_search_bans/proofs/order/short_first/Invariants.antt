-- the bans added rule out no more than all
use Rattle.std.proofs.Common.{List}
use Rattle.lv_base.specs.declared.search.Pair.{Pair}
use Rattle.lv_search_bans.specs.Bans.{AreBans}
use Rattle.lv_search_bans.proofs.order.short_first.Given as goal

abbrev pub invariant-loop-turn : goal.invariant-loop-turn
invariant-loop-turn l = (conflicts : List (List Pair)) → AreBans conflicts l.bans → AreBans conflicts l.sorted.items
