-- what is stated is over the booleans of the system
use Rattle.std.proofs.Common.{◌∙◌, List, subst, sym}
use Rattle.std.proofs.lemmas.Result.{IfOk-weaker}
use Rattle.lv_base.specs.declared.ids.Lit.{Lit}
use Rattle.lv_system.specs.System.{SystemValue, IsSystemOf}
use Rattle.lv_cert_writing.specs.Refuting.{Tells}
use Rattle.lv_cert_diagnosis.specs.Showing.{Asked}
use Rattle.lv_cert_diagnosis.specs.Keeping.{IsAsking}
use Rattle.lv_cert_diagnosis.proofs.Telling.{stated_over, tells_of}
use Rattle.lv_cert_diagnosis.proofs.asking.Asking.ask.Goals as goal

pub refute-requires : goal.refute-requires
refute-requires c =
    let v : Asked = c.args.self.now in
    let k : IsAsking v.plant v.facts v.system c.self.inside.stated.items =
    subst (λ (a : Asked). IsAsking a.plant a.facts a.system c.self.inside.stated.items) c.self.view_is c.self.invariant
    in
    stated_over v c.self.inside.stated.items k c.args.refuter.now c.requires.refuter c.as_slice.result.now c.args.pairs.now (c.as_slice.ensures.value ∙ c.in_ok-own.ensures) c.requires.moves

pub returns-clause-told : goal.returns-clause-told
returns-clause-told c =
    let v : Asked = c.args.self.now in
    let k : IsAsking v.plant v.facts v.system c.self.inside.stated.items =
    subst (λ (a : Asked). IsAsking a.plant a.facts a.system c.self.inside.stated.items) c.self.view_is c.self.invariant
    in
    IfOk-weaker c.refute.result _ _
    (λ told tells. tells_of v c.self.inside.stated.items k c.args.pairs.now c.requires.moves told
    (subst (λ (own : List (List Lit)). Tells v.system own told) (c.as_slice.ensures.value ∙ c.in_ok-own.ensures)
    (subst (λ (s : SystemValue). Tells s c.as_slice.result.now told) c.requires.refuter tells)))
    (c.refute.ensures.told v.plant (subst (IsSystemOf v.plant) (sym c.requires.refuter) k.of_plant))
