-- one variable more; and each is one of the first
use Rattle.std.proofs.Common.{◌≡◌, [], ◌∷◌, ◌++◌, cond, List, All, sym, subst, ap, ◌∙◌, arith}
use Rattle.std.proofs.lemmas.List.FromFn.{filter_of_map_range_with_len_more}
use Rattle.lv_base.specs.declared.ids.VarId.{VarId}
use Rattle.lv_model.specs.Lists.{IsVariable}
use Rattle.lv_probe.specs.Probing.{is_seen, variable, observables_among}
use Rattle.lv_probe.proofs.ObservableLemmas.{observables_there}
use Rattle.lv_probe.proofs.probing.observables_among.Goals as goal

pub loop-n-preserved : goal.loop-n-preserved
loop-n-preserved c =
    c.in_ok-push_observable.ensures
    ∙ ap (λ (xs : List VarId). xs ++ cond (is_seen c.args.kinds.now (variable c.loop-n.n)) (variable c.loop-n.n ∷ []) []) c.loop-n.invariant
    ∙ sym (filter_of_map_range_with_len_more (is_seen c.args.kinds.now) variable 0 c.loop-n.n c.loop-n.n (omega arith))

pub returns-clause-there : goal.returns-clause-there
returns-clause-there c =
    let most = c.loop-n.auto.n-end in
    let least = c.loop-n-test.false in
    let all : c.loop-n.n ≡ c.args.count = omega (arith, most, least) in
    subst (λ (xs : List VarId). All (IsVariable c.args.count) xs) (sym (c.loop-n.invariant ∙ ap (observables_among c.args.kinds.now) all)) (observables_there c.args.kinds.now c.args.count)
