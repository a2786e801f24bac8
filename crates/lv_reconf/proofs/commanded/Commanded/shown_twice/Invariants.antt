-- whether one of the states before may show the value, and what is left; no clause changed
use Rattle.std.proofs.Common.{◌≡◌, ◌&&◌, ◌||◌, Bool, List, drop}
use Rattle.std.specs.List.{list_any}
use Rattle.lv_base.specs.declared.ids.ValId.{ValId}
use Rattle.lv_model.specs.declared.state.TrackedState.{TrackedState}
use Rattle.lv_meaning.specs.declared.facts.Observation.{Observation}
use Rattle.lv_meaning.specs.Facts.{agrees}
use Rattle.lv_meaning.specs.Recovers.{some_nominal_step}
use Rattle.lv_reconf.specs.Narrowing.{Asks}
use Rattle.lv_reconf.specs.Tests.{two_pass}
use Rattle.lv_reconf.proofs.commanded.Commanded.shown_twice.Given as goal

abbrev pub invariant-loop-s : goal.invariant-loop-s
invariant-loop-s l = record {
  same : l.solver.set ≡ l.initial.solver.set;
  rest : (present : List Observation) (ends : List ValId → Bool) → Asks l.self.plant present ends l.initial.solver.set
      → ((l.once && list_any (λ (s : TrackedState). some_nominal_step l.self.plant present s.state l.self.pairs (λ b. ends b && agrees b l.seen)) (drop l.s-index l.states))
      || two_pass (λ (s : TrackedState). some_nominal_step l.self.plant present s.state l.self.pairs (λ b. ends b && agrees b l.seen)) (drop l.s-index l.states))
      ≡ two_pass (λ (s : TrackedState). some_nominal_step l.self.plant present s.state l.self.pairs (λ b. ends b && agrees b l.seen)) l.states;
}
