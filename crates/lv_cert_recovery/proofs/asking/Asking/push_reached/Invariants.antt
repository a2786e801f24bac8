use Rattle.std.proofs.Common.{◌≡◌, ◌++◌, drop, true}
use Rattle.std.specs.List.{flat_map}
use Rattle.lv_cert_laws.specs.lv_cert_meaning.Units.{goal_clauses}
use Rattle.lv_cert_recovery.proofs.asking.Asking.push_reached.Given as goal

abbrev pub invariant-loop-goal : goal.invariant-loop-goal
invariant-loop-goal l =
    l.own.items ++ flat_map (goal_clauses l.self.plant true) (drop l.goal-index l.goal-items) ≡ l.initial.own.items ++ flat_map (goal_clauses l.self.plant true) l.goal-items
