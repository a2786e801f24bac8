-- what the facts say, and then what the choices say
use Rattle.std.proofs.Common.{◌≡◌, ◌++◌, ◌∙◌, List, subst, ap}
use Rattle.lv_base.specs.declared.ids.Lit.{Lit}
use Rattle.lv_system.specs.System.{choices_of}
use Rattle.lv_ident.specs.Literals.{pair_literals}
use Rattle.lv_cert_laws.specs.lv_cert_meaning.Units.{units}
use Rattle.lv_cert_diagnosis.specs.Showing.{Asked}
use Rattle.lv_cert_diagnosis.specs.Keeping.{IsAsking}
use Rattle.lv_cert_diagnosis.proofs.Telling.{own_made, moves_there}
use Rattle.lv_cert_diagnosis.proofs.asking.Asking.own.Goals as goal

pub push_pairs-requires : goal.push_pairs-requires
push_pairs-requires c =
    let v : Asked = c.args.self.now in
    let k : IsAsking v.plant v.facts v.system c.self.inside.stated.items =
    subst (λ (a : Asked). IsAsking a.plant a.facts a.system c.self.inside.stated.items) c.self.view_is c.self.invariant
    in
    moves_there v c.self.inside.stated.items k c.choices.result.now (c.choices.ensures ∙ ap (λ (a : Asked). choices_of a.system) c.self.view_is) c.args.pairs.now c.requires

pub returns : goal.returns
returns c =
    let v : Asked = c.args.self.now in
    let k : IsAsking v.plant v.facts v.system c.self.inside.stated.items =
    subst (λ (a : Asked). IsAsking a.plant a.facts a.system c.self.inside.stated.items) c.self.view_is c.self.invariant
    in
    let all : c.push_units.new.out.items ≡ units c.as_slice-2.result.now = c.in_ok-push_units.ensures ∙ ap (λ xs. xs ++ units c.as_slice-2.result.now) c.new-own.ensures.items in
    let lits : c.as_slice-2.result.now ≡ c.self.inside.stated.items ++ pair_literals c.choices.result.now c.args.pairs.now =
    c.as_slice-2.ensures.value ∙ c.in_ok-push_pairs.ensures ∙ ap (λ (xs : List Lit). xs ++ pair_literals c.choices.result.now c.args.pairs.now) (c.in_ok-lits.ensures.items ∙ c.as_slice.ensures.value)
    in
    all ∙ ap units lits ∙ own_made v c.self.inside.stated.items k c.choices.result.now (c.choices.ensures ∙ ap (λ (a : Asked). choices_of a.system) c.self.view_is) c.args.pairs.now
