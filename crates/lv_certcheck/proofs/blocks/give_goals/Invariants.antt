use Rattle.std.proofs.Common.{◌≡◌, drop, true}
use Rattle.std.specs.List.{flat_map}
use Rattle.lv_cert_laws.specs.lv_cert_meaning.Units.{goal_clauses}
use Rattle.lv_certcheck.specs.Settings.{plant_of}
use Rattle.lv_certcheck.specs.Giving.{with_clauses}
use Rattle.lv_certcheck.proofs.blocks.give_goals.Given as goal

-- with those of the goals that are left, all are given
abbrev pub invariant-loop-goal : goal.invariant-loop-goal
invariant-loop-goal l = with_clauses l.block (flat_map (goal_clauses (plant_of l.setting) true) (drop l.goal-index l.goals)) ≡ with_clauses l.fn.block (flat_map (goal_clauses (plant_of l.setting) true) l.goals)
