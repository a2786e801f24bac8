-- the cost so far and that of what is left are all
use Rattle.std.proofs.Common.{◌≡◌, ◌+◌, ◌*◌, ◌≤◌, drop}
use Rattle.lv_base.specs.declared.limits.TheConstants.{FAULT_COST}
use Rattle.lv_meaning.specs.CandidateLaws.{moves_cost}
use Rattle.lv_cert_meaning.proofs.candidates.cost_of.Given as goal

abbrev pub invariant-loop-k : goal.invariant-loop-k
invariant-loop-k l = record {
  cost : l.total + moves_cost l.plant.types (drop l.k l.plant.parts) (drop l.k l.choices) ≡ moves_cost l.plant.types l.plant.parts l.choices;
  bound : l.total ≤ l.k * FAULT_COST;
}
