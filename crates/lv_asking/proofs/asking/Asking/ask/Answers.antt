-- what is chosen, what else is asked and what is assumed are of distinct booleans, and the solver's answer is of them
use Rattle.std.proofs.Common.{◌≡◌, ◌++◌, List, All, subst, sym, ap, ◌∙◌}
use Rattle.std.proofs.lemmas.Result.{IfOk-weaker}
use Rattle.lv_base.specs.declared.ids.Lit.{Lit}
use Rattle.lv_clauses.specs.ClauseMap.{ClauseMap}
use Rattle.lv_sat.specs.Answers.{IsModel}
use Rattle.lv_asking.specs.Literals.{pair_literals}
use Rattle.lv_asking.specs.Refutation.{Refutes}
use Rattle.lv_asking.specs.Asking.{AskingValue, IsPartial, IsFresh, IsAsking}
use Rattle.lv_asking.proofs.ClauseLemmas.{asked_is_clause}
use Rattle.lv_asking.proofs.asking.Asking.ask.Goals as goal

pub push_pairs-requires : goal.push_pairs-requires
push_pairs-requires c = (subst (λ (v : AskingValue). IsPartial v.choices.counts c.args.pairs.now) (sym c.self.view_is) c.requires.partial).moves

pub refute-requires-clause-clause : goal.refute-requires-clause-clause
refute-requires-clause-clause c =
    let chosen : c.as_slice.result.now ≡ pair_literals c.self.inside.choices c.args.pairs.now ++ c.args.more.now =
    c.as_slice.ensures.value ∙ c.in_ok-extend_from_slice.ensures.items
    ∙ ap (λ (ls : List Lit). ls ++ c.args.more.now) (c.in_ok-push_pairs.ensures ∙ ap (λ (ls : List Lit). ls ++ pair_literals c.self.inside.choices c.args.pairs.now) c.in_ok-chosen.ensures.items)
    in
    rw (chosen, c.as_slice-2.ensures.value)
    (asked_is_clause (record { set = c.self.inside.solver; choices = c.self.inside.choices; assumed = c.self.inside.assumed.items }) c.self.inside.solutions c.self.invariant c.args.pairs.now
    (subst (λ (v : AskingValue). IsPartial v.choices.counts c.args.pairs.now) (sym c.self.view_is) c.requires.partial) c.args.more.now
    (subst (λ (v : AskingValue). All (IsFresh v) c.args.more.now) (sym c.self.view_is) c.requires.more) c.requires.distinct)

pub refute-requires-clause-solutions : goal.refute-requires-clause-solutions
refute-requires-clause-solutions c =
    subst (λ (ls : List Lit). All (IsModel c.self.inside.solver ls) c.self.inside.solutions) (sym c.as_slice-2.ensures.value) c.self.invariant.found

pub invariant_of-self : goal.invariant_of-self
invariant_of-self c =
    let found : All (IsModel c.self.inside.solver c.self.inside.assumed.items) c.refute.new.solutions =
    subst (λ (ls : List Lit). All (IsModel c.self.inside.solver ls) c.refute.new.solutions) c.as_slice-2.ensures.value c.refute.ensures.solutions
    in
    subst (λ (set : ClauseMap). IsAsking set c.self.inside.choices c.self.inside.assumed.items c.refute.new.solutions) (sym c.refute.ensures.kept)
    (record { clause = c.self.invariant.clause; fit = c.self.invariant.fit; found = found })

pub returns-clause-answer : goal.returns-clause-answer
returns-clause-answer c =
    let chosen : c.as_slice.result.now ≡ pair_literals c.self.inside.choices c.args.pairs.now ++ c.args.more.now =
    c.as_slice.ensures.value ∙ c.in_ok-extend_from_slice.ensures.items
    ∙ ap (λ (ls : List Lit). ls ++ c.args.more.now) (c.in_ok-push_pairs.ensures ∙ ap (λ (ls : List Lit). ls ++ pair_literals c.self.inside.choices c.args.pairs.now) c.in_ok-chosen.ensures.items)
    in
    IfOk-weaker c.refute.result _ _
    (λ core told. subst (λ (v : AskingValue). Refutes v.set (pair_literals v.choices c.args.pairs.now ++ c.args.more.now) v.assumed core) c.self.view_is
    (subst (λ (ls : List Lit). Refutes c.self.inside.solver ls c.self.inside.assumed.items core) chosen (subst (λ (ls : List Lit). Refutes c.self.inside.solver c.as_slice.result.now ls core) c.as_slice-2.ensures.value told)))
    c.refute.ensures.answer
