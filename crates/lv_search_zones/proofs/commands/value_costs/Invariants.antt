-- the values so far have their costs
use Rattle.std.proofs.Common.{◌≡◌}
use Rattle.lv_search_zones.specs.Commands.{value_costs}
use Rattle.lv_search_zones.proofs.commands.value_costs.Given as goal

abbrev pub invariant-loop-value : goal.invariant-loop-value
invariant-loop-value l = l.costs.items ≡ value_costs l.model l.control.0 l.value
