-- one claim less
use Rattle.std.proofs.Common.{◌≡◌, ◌∷◌, ◌∙◌, ◌<◌, length, refl, sym, ap, subst}
use Rattle.lv_base.specs.declared.ids.Lit.{Lit}
use Rattle.lv_compile.specs.FormulaClauses.{size_of}
use Rattle.lv_labels.specs.declared.values.Values.{Values}
use Rattle.lv_labels.specs.Values.{booleans_at, literal_at}
use Rattle.lv_labels.specs.Literals.{values_of, value_at}
use Rattle.lv_labels.specs.Claims.{Claims, IsClaiming}
use Rattle.lv_labels.proofs.ClaimLemmas.{claims_less, literal_within}
use Rattle.lv_labels.proofs.fact_labels.FactLabels.release.Goals as goal

pub drop_claim-requires-clause-claim : goal.drop_claim-requires-clause-claim
drop_claim-requires-clause-claim c =
    record {
      within =
          subst (λ (l : Lit). l.var.0 < length c.self.inside.counts.items) (sym c.literal-lit.ensures)
          (literal_within (length c.self.inside.counts.items) c.self.inside.values c.args.moment c.args.var.0 c.args.val.0 c.self.invariant.before c.self.invariant.after
          (subst (λ (v : Claims). c.args.val.0 < size_of (booleans_at v.values c.args.moment) c.args.var.0) (sym c.self.view_is) c.requires));
      positive = ap (λ (l : Lit). l.sign) c.literal-lit.ensures;
    }

pub returns-clause-claiming : goal.returns-clause-claiming
returns-clause-claiming c =
    λ plant literals claiming.
    let within : c.literal-lit.result.var.0 < length c.self.inside.counts.items =
    subst (λ (l : Lit). l.var.0 < length c.self.inside.counts.items) (sym c.literal-lit.ensures)
    (literal_within (length c.self.inside.counts.items) c.self.inside.values c.args.moment c.args.var.0 c.args.val.0 c.self.invariant.before c.self.invariant.after
    (subst (λ (v : Claims). c.args.val.0 < size_of (booleans_at v.values c.args.moment) c.args.var.0) (sym c.self.view_is) c.requires)) in
    let values : c.self.inside.values ≡ values_of plant = ap (λ (v : Claims). v.values) c.self.view_is ∙ claiming.values in
    let old : Claims = record { clauses = c.self.inside.ltms.clauses; counts = c.self.inside.counts.items; values = c.self.inside.values; modes = c.self.inside.modes.items } in
    let new : Claims = record { clauses = c.drop_claim.new.ltms.clauses; counts = c.drop_claim.new.counts.items; values = c.self.inside.values; modes = c.self.inside.modes.items } in
    let same : c.literal-lit.result ≡ value_at plant c.args.moment c.args.var.0 c.args.val.0 =
    c.literal-lit.ensures ∙ ap (λ (vs : Values). literal_at vs c.args.moment c.args.var.0 c.args.val.0) values in
    let before : IsClaiming plant (c.literal-lit.result ∷ literals) old =
    subst (λ (l : Lit). IsClaiming plant (l ∷ literals) old) (sym same)
    (subst (λ (v : Claims). IsClaiming plant (value_at plant c.args.moment c.args.var.0 c.args.val.0 ∷ literals) v) (sym c.self.view_is) claiming) in
    claims_less plant literals c.literal-lit.result old new c.drop_claim.ensures.clauses refl refl within c.drop_claim.ensures.counts before
