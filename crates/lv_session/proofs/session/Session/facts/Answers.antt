-- the facts are those of a state of the plant
use Rattle.std.proofs.Common.{rules, ◌≡◌, sym, subst, IfOk}
use Rattle.std.proofs.lemmas.Result.{IfOk-weaker}
use Rattle.lv_session_state.specs.lv_meaning.Facts.{FactsFit, FactsInRange}
use Rattle.lv_session.specs.Session.{RunningSession}
use Rattle.lv_session_state.specs.State.{facts_of}
use Rattle.lv_session_state.specs.States.{IsStateOf}
use Rattle.lv_session_state.proofs.Asking.{facts_fit, facts_in_range}
use Rattle.lv_session.proofs.session.Session.facts.Goals as goal

pub returns-clause-fit : goal.returns-clause-fit
returns-clause-fit c =
    let at : IsStateOf c.args.self.now.plant c.args.self.now.state = subst (λ (s : RunningSession). IsStateOf s.plant s.state) c.self.view_is c.self.invariant.is_state in
    let told : IfOk c.facts.result (λ facts. facts ≡ facts_of c.args.self.now.state) = search rules in
    IfOk-weaker c.facts.result _ _ (λ facts is. subst (FactsFit c.args.self.now.plant) (sym is) (facts_fit c.args.self.now.plant c.args.self.now.state at)) told

pub returns-clause-in_range : goal.returns-clause-in_range
returns-clause-in_range c =
    let at : IsStateOf c.args.self.now.plant c.args.self.now.state = subst (λ (s : RunningSession). IsStateOf s.plant s.state) c.self.view_is c.self.invariant.is_state in
    let told : IfOk c.facts.result (λ facts. facts ≡ facts_of c.args.self.now.state) = search rules in
    IfOk-weaker c.facts.result _ _ (λ facts is. subst (FactsInRange c.args.self.now.plant) (sym is) (facts_in_range c.args.self.now.plant c.args.self.now.state at)) told
