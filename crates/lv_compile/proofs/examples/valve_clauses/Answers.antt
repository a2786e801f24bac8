-- both sides compute to the same
use Rattle.std.proofs.Common.{refl}
use Rattle.lv_compile.proofs.examples.valve_clauses.Goals as goal

pub returns : goal.returns
returns c =
    record {
      bools = refl;
      total = refl;
      one_inflow_after = refl;
      open_lets_flow_after = refl;
      stuck_open_lets_flow_after = refl;
      flows_in_after = refl;
      step_opens = refl;
      stay_without_command = refl;
      fault_sticks = refl;
    }
