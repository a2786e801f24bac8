-- the search is on the walk of the state's window, and has tried nothing
use Rattle.std.proofs.Common.{ap, sym, subst}
use Rattle.lv_window.specs.Query.{WindowQueryValue}
use Rattle.lv_session_state.specs.State.{window_facts, window_base}
use Rattle.lv_session_state.specs.Current.{IsWindowOf}
use Rattle.lv_session_state.proofs.state.State.look_back.Goals as goal

pub ask-requires-clause-on : goal.ask-requires-clause-on
ask-requires-clause-on c =
    let start = c.in_ok-query.ensures.start in
    subst (λ (q : WindowQueryValue). IsWindowOf c.args.model.now (window_facts c.args.self.now c.args.steps) c.args.self.now.k (window_base c.args.self.now c.args.steps) q) (sym c.in_ok-run.ensures.query)
    (record { plant_is = ap (λ (q : WindowQueryValue). q.plant) start; steps_are = ap (λ (q : WindowQueryValue). q.steps) start; k_is = ap (λ (q : WindowQueryValue). q.standing.k) start; on_walk = c.in_ok-query.ensures.query })
