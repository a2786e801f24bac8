-- the slots so far and those left are all
use Rattle.std.proofs.Common.{◌≡◌, ◌+◌, ◌++◌, drop, length}
use Rattle.lv_window.proofs.zones.push_slots.Given as goal

abbrev pub invariant-loop-costs : goal.invariant-loop-costs
invariant-loop-costs l = record {
  rest : l.grid ++ drop l.costs-index l.slots ≡ l.initial.grid ++ l.slots;
  made : length l.grid ≡ length l.initial.grid + l.costs-index;
}
