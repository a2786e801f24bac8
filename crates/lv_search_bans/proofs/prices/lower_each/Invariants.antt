-- the prices gone through are lowered, and those left are as they were
use Rattle.std.proofs.Common.{◌≡◌, ◌++◌, take, drop}
use Rattle.lv_search_bans.specs.Prices.{lowered_from}
use Rattle.lv_search_bans.proofs.prices.lower_each.Given as goal

abbrev pub invariant-loop-choice : goal.invariant-loop-choice
invariant-loop-choice l = take l.choice l.prices ++ lowered_from l.choice l.mask l.by (drop l.choice l.prices) ≡ lowered_from 0 l.mask l.by l.fn.prices
