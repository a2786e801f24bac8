-- the aim is of the plant and its values; the search is on the walk of the state's recovery, and has tried nothing
use Rattle.std.proofs.Common.{◌≤◌, ap, sym, subst, ◌∙◌, length, arith, false-eqb}
use Rattle.lv_meaning.specs.Ranges.{AimFits}
use Rattle.lv_reconf.specs.Query.{QueryValue}
use Rattle.lv_session_state.specs.State.{SessionState, aim_of}
use Rattle.lv_session_state.specs.Current.{IsRecoveryOf}
use Rattle.lv_session_state.proofs.RecoveriesAsked.{aim_fits}
use Rattle.lv_session_state.proofs.state.State.recover.Goals as goal

pub recover-requires-clause-fits : goal.recover-requires-clause-fits
recover-requires-clause-fits c = subst (AimFits c.args.model.now) (sym c.in_ok-aim.ensures) (aim_fits c.args.model.now c.args.self.now c.requires.state)

pub ask-requires-clause-on : goal.ask-requires-clause-on
ask-requires-clause-on c =
    let start = c.in_ok-query.ensures.start in
    let some : 1 ≤ length c.args.self.now.goals = subst (λ (s : SessionState). 1 ≤ length s.goals) c.self.view_is (omega (arith, false-eqb _ 0 c.if-is_empty.ensures)) in
    subst (λ (q : QueryValue). IsRecoveryOf c.args.model.now (aim_of c.args.self.now) c.args.self.now.goals q) (sym c.in_ok-run.ensures.query)
    (record { plant_is = ap (λ (q : QueryValue). q.plant) start; aim_is = ap (λ (q : QueryValue). q.aim) start ∙ c.in_ok-aim.ensures; some = some; on_walk = c.in_ok-query.ensures.query })
