-- no goal before can be missed
use Rattle.std.proofs.Common.{◌≡◌, true, List, drop}
use Rattle.lv_meaning.specs.declared.facts.Observation.{Observation}
use Rattle.lv_reconf.specs.Narrowing.{Asks}
use Rattle.lv_reconf.specs.Trying.{some_missed}
use Rattle.lv_reconf.proofs.commanded.Commanded.some_missed.Given as goal

abbrev pub invariant-loop-goal : goal.invariant-loop-goal
invariant-loop-goal l =
    (present : List Observation) → Asks l.self.plant present (λ b. true) l.plain.set → some_missed l.self.plant present l.self.pairs (drop l.goal-index l.goals) l.states ≡ some_missed l.self.plant present l.self.pairs l.goals l.states
