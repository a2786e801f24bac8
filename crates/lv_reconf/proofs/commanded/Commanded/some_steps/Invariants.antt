-- the states before have no such step, and no clause changed
use Rattle.std.proofs.Common.{◌≡◌, Bool, List, drop}
use Rattle.std.specs.List.{list_any}
use Rattle.lv_base.specs.declared.ids.ValId.{ValId}
use Rattle.lv_model.specs.declared.state.TrackedState.{TrackedState}
use Rattle.lv_meaning.specs.declared.facts.Observation.{Observation}
use Rattle.lv_meaning.specs.Recovers.{some_nominal_step}
use Rattle.lv_reconf.specs.Narrowing.{Asks}
use Rattle.lv_reconf.proofs.commanded.Commanded.some_steps.Given as goal

abbrev pub invariant-loop-s : goal.invariant-loop-s
invariant-loop-s l = record {
  same : l.solver.set ≡ l.initial.solver.set;
  rest : (present : List Observation) (ends : List ValId → Bool) → Asks l.self.plant present ends l.initial.solver.set
      → list_any (λ (s : TrackedState). some_nominal_step l.self.plant present s.state l.self.pairs ends) (drop l.s-index l.states)
      ≡ list_any (λ (s : TrackedState). some_nominal_step l.self.plant present s.state l.self.pairs ends) l.states;
}
