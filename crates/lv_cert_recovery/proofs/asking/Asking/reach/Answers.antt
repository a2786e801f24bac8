-- what is told of the goals' clauses is told of steps that reach them
use Rattle.std.proofs.Common.{◌≡◌, ◌++◌, ◌∙◌, List, All, subst, sym, ap}
use Rattle.std.proofs.lemmas.Result.{IfOk-weaker}
use Rattle.lv_base.specs.declared.ids.Lit.{Lit}
use Rattle.lv_search_zones.specs.lv_compile.Booleans.{bool_count}
use Rattle.lv_system.specs.Numbering.{IsOver}
use Rattle.lv_cert_recovery.specs.Asking.{Asked, IsAsking}
use Rattle.lv_cert_recovery.specs.Showing.{own_clauses, reached_clauses}
use Rattle.lv_cert_recovery.specs.Telling.{IsToldOf}
use Rattle.lv_cert_recovery.proofs.AskingLemmas.{goals_over, reach_tells}
use Rattle.lv_cert_recovery.proofs.asking.Asking.reach.Goals as goal

pub steps_with-requires-clause-over : goal.steps_with-requires-clause-over
steps_with-requires-clause-over c =
    let v : Asked = c.args.self.now in
    let k : IsAsking v c.self.inside.vars.items = subst (λ (a : Asked). IsAsking a c.self.inside.vars.items) c.self.view_is c.self.invariant in
    let made : c.push_reached.new.own.items ≡ reached_clauses v.plant v.aim = c.in_ok-push_reached.ensures ∙ ap (λ (cs : List (List Lit)). cs ++ reached_clauses v.plant v.aim) c.new-reached.ensures.items in
    subst (λ (cs : List (List Lit)). All (IsOver (bool_count v.plant)) cs) (sym made) (goals_over v.plant v.system k.of_plant v.aim.goals k.asked.fits.goals)

pub returns-clause-told : goal.returns-clause-told
returns-clause-told c =
    let v : Asked = c.args.self.now in
    let k : IsAsking v c.self.inside.vars.items = subst (λ (a : Asked). IsAsking a c.self.inside.vars.items) c.self.view_is c.self.invariant in
    let made : c.push_reached.new.own.items ≡ reached_clauses v.plant v.aim = c.in_ok-push_reached.ensures ∙ ap (λ (cs : List (List Lit)). cs ++ reached_clauses v.plant v.aim) c.new-reached.ensures.items in
    IfOk-weaker c.steps_with.result _ _
    (λ told is.
    reach_tells v c.self.inside.vars.items k c.args.state.now c.requires.fit c.args.pairs.now c.requires.have told
    (subst (λ (cs : List (List Lit)). IsToldOf v.system (own_clauses v.plant v.aim c.args.state.now c.args.pairs.now cs) told) made is))
    c.steps_with.ensures.told
