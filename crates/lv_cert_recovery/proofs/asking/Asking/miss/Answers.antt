-- what is told of the clauses of the goal's negation is told of steps that miss it
use Rattle.std.proofs.Common.{List, All, false, subst, sym}
use Rattle.std.proofs.lemmas.Result.{IfOk-weaker}
use Rattle.lv_base.specs.declared.ids.Lit.{Lit}
use Rattle.lv_search_zones.specs.lv_compile.Booleans.{bool_count}
use Rattle.lv_system.specs.Numbering.{IsOver}
use Rattle.lv_cert_recovery.specs.Asking.{Asked, IsAsking}
use Rattle.lv_cert_recovery.specs.Showing.{own_clauses}
use Rattle.lv_cert_recovery.specs.Telling.{IsToldOf}
use Rattle.lv_cert_recovery.proofs.AskingLemmas.{goal_over, miss_tells}
use Rattle.lv_cert_recovery.proofs.asking.Asking.miss.Goals as goal

pub steps_with-requires-clause-over : goal.steps_with-requires-clause-over
steps_with-requires-clause-over c =
    let v : Asked = c.args.self.now in
    let k : IsAsking v c.self.inside.vars.items = subst (λ (a : Asked). IsAsking a c.self.inside.vars.items) c.self.view_is c.self.invariant in
    subst (λ (cs : List (List Lit)). All (IsOver (bool_count v.plant)) cs) (sym c.in_ok-missed.ensures) (goal_over v.plant v.system k.of_plant c.args.goal.now false c.requires.goal)

pub returns-clause-told : goal.returns-clause-told
returns-clause-told c =
    let v : Asked = c.args.self.now in
    let k : IsAsking v c.self.inside.vars.items = subst (λ (a : Asked). IsAsking a c.self.inside.vars.items) c.self.view_is c.self.invariant in
    IfOk-weaker c.steps_with.result _ _
    (λ told is.
    miss_tells v c.self.inside.vars.items k c.args.state.now c.requires.fit c.args.pairs.now c.requires.have c.args.goal.now c.requires.goal told
    (subst (λ (cs : List (List Lit)). IsToldOf v.system (own_clauses v.plant v.aim c.args.state.now c.args.pairs.now cs) told) c.in_ok-missed.ensures is))
    c.steps_with.ensures.told
