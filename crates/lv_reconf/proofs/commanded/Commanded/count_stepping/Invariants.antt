-- the states before have such a step, and no clause changed
use Rattle.std.proofs.Common.{◌≡◌, ◌+◌, Bool, List, drop}
use Rattle.std.specs.List.{prefix_len}
use Rattle.lv_base.specs.declared.ids.ValId.{ValId}
use Rattle.lv_model.specs.declared.state.TrackedState.{TrackedState}
use Rattle.lv_meaning.specs.declared.facts.Observation.{Observation}
use Rattle.lv_meaning.specs.Recovers.{some_nominal_step}
use Rattle.lv_reconf.specs.Narrowing.{Asks}
use Rattle.lv_reconf.proofs.commanded.Commanded.count_stepping.Given as goal

abbrev pub invariant-loop-n : goal.invariant-loop-n
invariant-loop-n l = record {
  same : l.solver.set ≡ l.initial.solver.set;
  rest : (present : List Observation) (ends : List ValId → Bool) → Asks l.self.plant present ends l.initial.solver.set
      → (l.n + prefix_len (λ (s : TrackedState). some_nominal_step l.self.plant present s.state l.self.pairs ends) (drop l.n l.states))
      ≡ prefix_len (λ (s : TrackedState). some_nominal_step l.self.plant present s.state l.self.pairs ends) l.states;
}
