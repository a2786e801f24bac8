-- beside what the observation says, what is asked tells what is possible where it is made
use Rattle.std.proofs.Common.{◌≡◌, ◌<◌, true, List, subst, sym, ap, ◌∙◌}
use Rattle.std.specs.Result.{IfOk}
use Rattle.lv_base.specs.declared.ids.Lit.{Lit}
use Rattle.lv_base.specs.declared.search.Pair.{Pair}
use Rattle.lv_base.specs.Choices.{pairs_of}
use Rattle.lv_model.specs.Lists.{sizes}
use Rattle.lv_compile.specs.Booleans.{Booleans, booleans_next, value_literal}
use Rattle.lv_compile.specs.FormulaClauses.{size_of}
use Rattle.lv_system.specs.Choices.{Choices}
use Rattle.lv_meaning.specs.declared.facts.Observation.{Observation}
use Rattle.lv_meaning.specs.Facts.{HasValue}
use Rattle.lv_meaning.specs.Possible.{is_possible}
use Rattle.lv_asking.specs.Asking.{AskingValue, Decides, beside, IsPartial as IsPartialOf}
use Rattle.lv_ident.specs.Literals.{IsPartial, observed_literal}
use Rattle.lv_ident.specs.Probing.{with_next}
use Rattle.lv_ident.specs.Trial.{TrialValue, IsTrial}
use Rattle.lv_ident.proofs.TrialLemmas.{seen_before_moves}
use Rattle.lv_ident.proofs.trial.IdentTrial.allows.Goals as goal

pub literal-seen-requires : goal.literal-seen-requires
literal-seen-requires c =
    subst (λ (b : Booleans). c.args.val.0 < size_of b c.args.var.0) (sym c.self.invariant.after_is)
    (subst (λ (t : TrialValue). HasValue (sizes t.plant) (record { var = c.args.var; val = c.args.val })) (sym c.self.view_is) c.requires.value).below

pub possible_beside-requires-clause-partial : goal.possible_beside-requires-clause-partial
possible_beside-requires-clause-partial c =
    subst (λ (ps : List Pair). IsPartialOf c.self.inside.asking.choices.counts ps) (sym c.as_slice.ensures.value)
    (subst (λ (n : Choices). IsPartialOf n.counts c.in_ok-pairs.pairs.items) (sym c.self.invariant.tells.choices)
    (subst (λ (t : TrialValue). IsPartial t.plant c.in_ok-pairs.pairs.items) (sym c.self.view_is) c.in_ok-pairs.ensures.partial))

pub possible_beside-requires-clause-below : goal.possible_beside-requires-clause-below
possible_beside-requires-clause-below c =
    let o : Observation = record { var = c.args.var; val = c.args.val } in
    let seen : c.literal-seen.result ≡ observed_literal (booleans_next c.self.inside.model.now) o = c.literal-seen.ensures ∙ ap (λ (b : Booleans). value_literal b o.var.0 o.val.0 true) c.self.invariant.after_is in
    subst (λ (l : Lit). l.var.0 < c.self.inside.asking.choices.first) (sym seen)
    (subst (λ (n : Choices). (observed_literal (booleans_next c.self.inside.model.now) o).var.0 < n.first) (sym c.self.invariant.tells.choices)
    (seen_before_moves c.self.inside.model.now o (subst (λ (t : TrialValue). HasValue (sizes t.plant) o) (sym c.self.view_is) c.requires.value)))

pub invariant_of-self : goal.invariant_of-self
invariant_of-self c = subst (λ (a : AskingValue). IsTrial c.self.inside.model.now c.self.inside.facts c.self.inside.after a) (sym c.possible_beside.ensures.same) c.self.invariant

pub returns-clause-answer : goal.returns-clause-answer
returns-clause-answer c =
    let o : Observation = record { var = c.args.var; val = c.args.val } in
    let seen : c.literal-seen.result ≡ observed_literal (booleans_next c.self.inside.model.now) o = c.literal-seen.ensures ∙ ap (λ (b : Booleans). value_literal b o.var.0 o.val.0 true) c.self.invariant.after_is in
    let decides : Decides (beside c.literal-seen.result c.self.inside.asking) (is_possible c.self.inside.model.now (with_next c.self.inside.facts o)) =
    subst (λ (l : Lit). Decides (beside l c.self.inside.asking) (is_possible c.self.inside.model.now (with_next c.self.inside.facts o))) (sym seen)
    (c.self.invariant.tells.seeing o (subst (λ (t : TrialValue). HasValue (sizes t.plant) o) (sym c.self.view_is) c.requires.value))
    in
    subst (λ (t : TrialValue). IfOk c.possible_beside.result (λ answer. answer ≡ is_possible t.plant (with_next t.facts o) (pairs_of c.args.candidate.now.choices))) c.self.view_is
    (subst (λ (ps : List Pair). IfOk c.possible_beside.result (λ answer. answer ≡ is_possible c.self.inside.model.now (with_next c.self.inside.facts o) ps)) (c.as_slice.ensures.value ∙ c.in_ok-pairs.ensures.pairs)
    (c.possible_beside.ensures.answer (is_possible c.self.inside.model.now (with_next c.self.inside.facts o)) decides))
