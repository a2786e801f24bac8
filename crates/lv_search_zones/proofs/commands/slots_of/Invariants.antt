-- the slots made and those of the controls left are those of all
use Rattle.std.proofs.Common.{◌≡◌, ◌++◌, drop, map, length}
use Rattle.lv_search_zones.specs.Commands.{control_costs, control_slots}
use Rattle.lv_search_zones.proofs.commands.slots_of.Given as goal

abbrev pub invariant-loop-control : goal.invariant-loop-control
invariant-loop-control l = record {
  rest : l.grid ++ map (control_costs l.model) (drop l.control-index l.vars) ≡ control_slots l.model;
  made : length l.grid ≡ l.control-index;
}
