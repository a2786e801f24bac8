-- a possible candidate has values, and they are of its step
use Rattle.std.proofs.Common.{◌≡◌, ◌∙◌, List, All, subst, sym, ap}
use Rattle.std.proofs.lemmas.Result.{IfOk-weaker}
use Rattle.lv_base.specs.declared.search.Pair.{Pair}
use Rattle.lv_base.specs.Choices.{pairs_of}
use Rattle.lv_model.specs.Lists.{move_counts}
use Rattle.lv_meaning.specs.Possible.{is_possible}
use Rattle.lv_system.specs.Decoding.{IsDecoded}
use Rattle.lv_system.specs.System.{SystemValue}
use Rattle.lv_ident.specs.Literals.{HasMove}
use Rattle.lv_ident.proofs.ReasonLemmas.{full_is_partial}
use Rattle.lv_cert_writing.specs.Refuting.{MakeTrue}
use Rattle.lv_cert_diagnosis.specs.Showing.{Asked, own_clauses}
use Rattle.lv_cert_diagnosis.specs.Keeping.{IsAsking}
use Rattle.lv_cert_diagnosis.proofs.Telling.{possible_told, values_true, values_show}
use Rattle.lv_cert_diagnosis.proofs.asking.Asking.step_of.Goals as goal

pub ask-requires-clause-moves : goal.ask-requires-clause-moves
ask-requires-clause-moves c =
    subst (All (HasMove (move_counts c.args.self.now.plant))) (sym (c.as_slice-2.ensures.value ∙ c.in_ok-pairs.ensures ∙ ap pairs_of c.as_slice.ensures))
    (full_is_partial c.args.self.now.plant c.args.rank.now.choices c.requires.full).moves

pub values_told-values-requires : goal.values_told-values-requires
values_told-values-requires c =
    let pairs : c.as_slice-2.result.now ≡ pairs_of c.args.rank.now.choices = c.as_slice-2.ensures.value ∙ c.in_ok-pairs.ensures ∙ ap pairs_of c.as_slice.ensures in
    possible_told c.args.self.now c.as_slice-2.result.now c.in_ok-ask.field-0 c.in_ok-ask.ensures.told (ap (is_possible c.args.self.now.plant c.args.self.now.facts) pairs ∙ c.requires.possible)

pub returns-clause-shown : goal.returns-clause-shown
returns-clause-shown c =
    let v : Asked = c.args.self.now in
    let k : IsAsking v.plant v.facts v.system c.self.inside.stated.items =
    subst (λ (a : Asked). IsAsking a.plant a.facts a.system c.self.inside.stated.items) c.self.view_is c.self.invariant
    in
    let pairs : c.as_slice-2.result.now ≡ pairs_of c.args.rank.now.choices = c.as_slice-2.ensures.value ∙ c.in_ok-pairs.ensures ∙ ap pairs_of c.as_slice.ensures in
    let true_of = values_true v c.as_slice-2.result.now c.in_ok-ask.field-0 c.in_ok-ask.ensures.told c.values_told-values.result c.values_told-values.ensures in
    IfOk-weaker c.decode.result _ _
    (λ pair d. values_show v c.self.inside.stated.items k c.args.rank.now c.requires.full c.as_slice-3.result.now
    (subst (λ (ps : List Pair). MakeTrue v.system.set (own_clauses v.plant v.facts ps) c.as_slice-3.result.now) pairs (subst (MakeTrue v.system.set (own_clauses v.plant v.facts c.as_slice-2.result.now)) (sym c.as_slice-3.ensures) true_of))
    pair.now pair.next pair.moves (subst (λ (s : SystemValue). IsDecoded s c.as_slice-3.result.now pair.now pair.next pair.moves) (ap (λ (a : Asked). a.system) c.self.view_is) d))
    c.decode.ensures
