-- what is read is the labelling of the claims and the state's modes
use Rattle.std.proofs.Common.{◌≡◌, ◌∙◌, ◌++◌, ℕ, List, All, length, true, refl, sym, ap₂, subst}
use Rattle.std.specs.Option.{option_copied}
use Rattle.std.proofs.lemmas.Result.{IfOk-weaker}
use Rattle.lv_base.specs.declared.ids.Lit.{Lit}
use Rattle.lv_base.specs.declared.ids.ValId.{ValId}
use Rattle.lv_base.specs.declared.ids.VarId.{VarId}
use Rattle.lv_labels.specs.Literals.{literals_of, state_literals}
use Rattle.lv_labels.specs.Labels.{IsLabelling}
use Rattle.lv_labels.specs.declared.labelling.Labelling.{Labelling}
use Rattle.lv_labels.specs.Finding.{labelling}
use Rattle.lv_labels.specs.Claims.{Claims, IsClaiming}
use Rattle.lv_labels.specs.Modes.{are_values, modes_in}
use Rattle.lv_labels.specs.Assuming.{IsClaim, IsToldUnder}
use Rattle.lv_labels.proofs.TellLemmas.{labelling_told, state_literals_are, assumed_true, values_claims}
use Rattle.lv_labels.proofs.FindingLemmas.{labelling_told_is}
use Rattle.lv_labels.proofs.fact_labels.FactLabels.tell.Goals as goal

pub told_under-requires-clause-claims : goal.told_under-requires-clause-claims
told_under-requires-clause-claims c =
    let lits_are : c.as_slice-2.result.now ≡ literals_of c.self.inside.values.before c.self.inside.modes.items (modes_in (option_copied c.args.state)) =
    c.as_slice-2.ensures.value ∙ c.in_ok-lits.ensures ∙ ap₂ (λ (xs : List VarId) (vs : List ValId). literals_of c.self.inside.values.before xs vs) c.as_slice.ensures.value c.modes_in.ensures in
    let are : are_values c.self.inside.values.before c.self.inside.modes.items (modes_in (option_copied c.args.state)) ≡ true =
    subst (λ (v : Claims). are_values v.values.before v.modes (modes_in (option_copied c.args.state)) ≡ true) (sym c.self.view_is) c.requires in
    subst (λ (ls : List Lit). All (IsClaim c.self.inside.ltms.bools) ls) (sym lits_are)
    (subst (λ (n : ℕ). All (IsClaim n) (literals_of c.self.inside.values.before c.self.inside.modes.items (modes_in (option_copied c.args.state)))) (sym c.self.invariant.assumed.bools)
    (values_claims (length c.self.inside.counts.items) c.self.inside.values.before c.self.inside.modes.items (modes_in (option_copied c.args.state)) c.self.invariant.before are))

pub told_under-requires-clause-positive : goal.told_under-requires-clause-positive
told_under-requires-clause-positive c = assumed_true c.self.inside.counts.items c.self.inside.ltms c.self.invariant.assumed

pub returns-clause-found : goal.returns-clause-found
returns-clause-found c =
    λ plant literals claiming.
    let old : Claims = record { clauses = c.self.inside.ltms.clauses; counts = c.self.inside.counts.items; values = c.self.inside.values; modes = c.self.inside.modes.items } in
    let before : IsClaiming plant literals old = subst (λ (v : Claims). IsClaiming plant literals v) (sym c.self.view_is) claiming in
    let lits_are : c.as_slice-2.result.now ≡ literals_of c.self.inside.values.before c.self.inside.modes.items (modes_in (option_copied c.args.state)) =
    c.as_slice-2.ensures.value ∙ c.in_ok-lits.ensures ∙ ap₂ (λ (xs : List VarId) (vs : List ValId). literals_of c.self.inside.values.before xs vs) c.as_slice.ensures.value c.modes_in.ensures in
    let state : literals_of c.self.inside.values.before c.self.inside.modes.items (modes_in (option_copied c.args.state)) ≡ state_literals plant (option_copied c.args.state) =
    state_literals_are plant c.self.inside.values c.self.inside.modes.items (option_copied c.args.state) before.values before.modes in
    IfOk-weaker c.told_under.result (IsToldUnder c.self.inside.ltms c.as_slice-2.result.now c.self.inside.values) (λ (told : Labelling). told ≡ labelling plant (literals ++ state_literals plant (option_copied c.args.state)))
    (λ told under.
    labelling_told_is plant (literals ++ state_literals plant (option_copied c.args.state)) told
    (subst (λ (ls : List Lit). IsLabelling plant (literals ++ ls) told) (lits_are ∙ state)
    (labelling_told plant literals c.as_slice-2.result.now old c.self.inside.ltms before refl c.self.invariant.assumed told under)))
    c.told_under.ensures.told
