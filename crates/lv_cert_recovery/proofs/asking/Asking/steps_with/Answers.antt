-- what is stated is over the booleans of the system, and what is told of it is told of its clauses
use Rattle.std.proofs.Common.{◌≡◌, ◌++◌, ◌∙◌, List, All, length, subst, sym, ap, arith}
use Rattle.std.proofs.lemmas.Result.{IfOk-weaker}
use Rattle.lv_base.specs.declared.ids.Lit.{Lit}
use Rattle.lv_system.specs.Numbering.{IsOver}
use Rattle.lv_system.specs.System.{SystemValue}
use Rattle.lv_cert_recovery.specs.Asking.{Asked, IsAsking}
use Rattle.lv_cert_recovery.specs.Showing.{own_clauses}
use Rattle.lv_cert_recovery.specs.Telling.{IsTold}
use Rattle.lv_cert_recovery.proofs.AskingLemmas.{own_over}
use Rattle.lv_cert_recovery.proofs.asking.Asking.steps_with.Goals as goal

pub ask-requires-clause-refuter : goal.ask-requires-clause-refuter
ask-requires-clause-refuter c = c.requires.refuter ∙ sym (ap (λ (a : Asked). a.system) c.self.view_is)

pub ask-requires-clause-over : goal.ask-requires-clause-over
ask-requires-clause-over c =
    let v : Asked = c.args.self.now in
    let k : IsAsking v c.self.inside.vars.items = subst (λ (a : Asked). IsAsking a c.self.inside.vars.items) c.self.view_is c.self.invariant in
    let made : c.as_slice.result.now ≡ own_clauses v.plant v.aim c.args.state.now c.args.pairs.now c.args.more.items =
    c.as_slice.ensures.value ∙ c.in_ok-push_all.ensures ∙ ap (λ (cs : List (List Lit)). cs ++ c.args.more.items) c.in_ok-own.ensures in
    subst (λ (s : SystemValue). All (IsOver s.set.bools) c.as_slice.result.now) (sym (ap (λ (a : Asked). a.system) c.self.view_is))
    (subst (λ (cs : List (List Lit)). All (IsOver v.system.set.bools) cs) (sym made)
    (own_over v.plant v.system k.of_plant v.aim k.asked.fits c.args.state.now c.requires.fit c.args.pairs.now c.requires.have c.args.more.items c.requires.over))

pub returns-clause-told : goal.returns-clause-told
returns-clause-told c =
    let v : Asked = c.args.self.now in
    let made : c.as_slice.result.now ≡ own_clauses v.plant v.aim c.args.state.now c.args.pairs.now c.args.more.items =
    c.as_slice.ensures.value ∙ c.in_ok-push_all.ensures ∙ ap (λ (cs : List (List Lit)). cs ++ c.args.more.items) c.in_ok-own.ensures in
    IfOk-weaker c.ask.result _ _
    (λ told tells.
    record {
      told = subst (λ (cs : List (List Lit)). IsTold v.system cs told) made (subst (λ (s : SystemValue). IsTold s c.as_slice.result.now told) (ap (λ (a : Asked). a.system) c.self.view_is) tells);
      few = let same = ap length made in let len = c.as_slice.ensures.len in let small = c.push_all.new.out.small in omega (arith, same, len, small);
    })
    c.ask.ensures.told
