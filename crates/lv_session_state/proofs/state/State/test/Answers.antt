-- the aim is of the plant and its values; the search is on the walk of the state's test, and has tried nothing
use Rattle.std.proofs.Common.{ap, sym, subst, ◌∙◌}
use Rattle.lv_meaning.specs.declared.aim.Aim.{Aim}
use Rattle.lv_meaning.specs.Ranges.{AimFits}
use Rattle.lv_reconf.specs.Testing.{TestValue}
use Rattle.lv_session_state.specs.State.{test_aim_of}
use Rattle.lv_session_state.specs.Current.{IsTestOf}
use Rattle.lv_session_state.proofs.TestsAsked.{test_aim_fits, observable_there}
use Rattle.lv_session_state.proofs.state.State.test.Goals as goal

pub find_test-requires-clause-fits : goal.find_test-requires-clause-fits
find_test-requires-clause-fits c = subst (AimFits c.args.model.now) (sym c.in_ok-aim.ensures) (test_aim_fits c.args.model.now c.args.self.now c.requires.state)

pub find_test-requires-clause-none : goal.find_test-requires-clause-none
find_test-requires-clause-none c = ap (λ (a : Aim). a.goals) c.in_ok-aim.ensures

pub find_test-requires-clause-there : goal.find_test-requires-clause-there
find_test-requires-clause-there c = observable_there c.args.model.now c.args.var c.requires.there

pub ask-requires-clause-on : goal.ask-requires-clause-on
ask-requires-clause-on c =
    let start = c.in_ok-query.ensures.start in
    subst (λ (q : TestValue). IsTestOf c.args.model.now (test_aim_of c.args.self.now) c.args.var q) (sym c.in_ok-run.ensures.query)
    (record { plant_is = ap (λ (q : TestValue). q.plant) start; aim_is = ap (λ (q : TestValue). q.aim) start ∙ c.in_ok-aim.ensures; var_is = ap (λ (q : TestValue). q.var) start; on_walk = c.in_ok-query.ensures.query })
