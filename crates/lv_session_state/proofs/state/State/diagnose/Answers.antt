-- the search is on the walk of the state's diagnosis, and has tried nothing
use Rattle.std.proofs.Common.{ap, sym, subst}
use Rattle.lv_ident.specs.Query.{QueryValue}
use Rattle.lv_session_state.specs.State.{facts_of}
use Rattle.lv_session_state.specs.Current.{IsDiagnosisOf}
use Rattle.lv_session_state.proofs.state.State.diagnose.Goals as goal

pub ask-requires-clause-on : goal.ask-requires-clause-on
ask-requires-clause-on c =
    let start = c.in_ok-query.ensures.start in
    subst (λ (q : QueryValue). IsDiagnosisOf c.args.model.now (facts_of c.args.self.now) c.args.self.now.k c.args.self.now.distinct c.args.self.now.tracked q) (sym c.in_ok-run.ensures.query)
    (record {
      plant_is = ap (λ (q : QueryValue). q.plant) start;
      facts_are = ap (λ (q : QueryValue). q.facts) start;
      k_is = ap (λ (q : QueryValue). q.standing.k) start;
      distinct_is = ap (λ (q : QueryValue). q.distinct) start;
      on_walk = c.in_ok-query.ensures.query;
    })
