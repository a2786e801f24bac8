use Rattle.std.proofs.Common.{◌≡◌, ◌+◌, ◌*◌, ◌≤◌, drop}
use Rattle.lv_model.specs.Lists.{controls}
use Rattle.lv_meaning.specs.Commands.{commands_cost}
use Rattle.lv_certcheck.specs.Settings.{plant_of}
use Rattle.lv_certcheck.proofs.judge.Judge.command_cost.Given as goal

-- with the prices of those that are left, this is what all cost; each costs no more than a price may
abbrev pub invariant-loop-k : goal.invariant-loop-k
invariant-loop-k l =
    record {
      cost : l.cost + commands_cost (plant_of l.self.setting) (drop l.k l.control-items) (drop l.k l.values) ≡ commands_cost (plant_of l.self.setting) (controls (plant_of l.self.setting)) l.values;
      bound : l.cost ≤ l.k * 1000000;
    }
