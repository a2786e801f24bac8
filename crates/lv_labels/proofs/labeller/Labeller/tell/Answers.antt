-- the facts of this question are claimed, and no others
use Rattle.std.proofs.Common.{◌≡◌, ◌+◌, ◌-◌, ◌<◌, ◌^◌, ◌++◌, ◌≤◌, List, length, All, IfOk, sym, ap, subst, refl, ◌∙◌}
use Rattle.std.specs.Option.{option_copied}
use Rattle.std.proofs.lemmas.Result.{IfOk-weaker}
use Rattle.lv_base.specs.declared.ids.Lit.{Lit}
use Rattle.lv_model.specs.declared.plant.Plant.{Plant}
use Rattle.lv_reply.specs.declared.labels.Label.{Label}
use Rattle.lv_labels.specs.Literals.{values_of, fact_literals, state_literals}
use Rattle.lv_labels.specs.Finding.{labelling}
use Rattle.lv_labels.specs.Claims.{Claims, IsClaiming}
use Rattle.lv_labels.specs.Holding.{claim_literals, fact_claims, AreFactsIn, IsClaimIn, CLAIMS, IsHolding}
use Rattle.lv_labels.proofs.HoldingLemmas.{claims_are_facts, held_anew}
use Rattle.lv_labels.proofs.labeller.Labeller.tell.Goals as goal

-- what is claimed before the modes are assumed, and after they are taken back
holding : (c : goal.After-tell) → (e : Claims) → e ≡ c.turn_all.new.labels → IsHolding c.self.inside.model.now c.in_ok-claims.claims.items e
holding c e same =
    let plant = c.self.inside.model.now in
    let asked : AreFactsIn plant c.args.facts.now = subst (λ (p : Plant). AreFactsIn p c.args.facts.now) (sym c.self.view_is) c.requires.facts in
    let are : c.in_ok-claims.claims.items ≡ fact_claims plant c.args.facts.now = c.in_ok-claims.ensures in
    held_anew plant c.self.inside.claimed.items c.in_ok-claims.claims.items c.self.inside.labels c.turn_all.new.labels e c.self.invariant
    (subst (All (IsClaimIn (values_of plant))) (sym are) asked.claims)
    (subst (λ (xs : List Label). length xs ≤ CLAIMS) (sym are) asked.few)
    (subst (λ (xs : List Label). (p : Plant) (ls : List Lit) → length xs + length c.in_ok-claims.claims.items + length ls < 2 ^ 32 - 1 → IsClaiming p (claim_literals p xs ++ ls) c.self.inside.labels → IsClaiming p (claim_literals p c.in_ok-claims.claims.items ++ ls) c.turn_all.new.labels)
    c.as_slice.ensures.value
    (subst (λ (xs : List Label). (p : Plant) (ls : List Lit) → length c.as_slice.result.now + length xs + length ls < 2 ^ 32 - 1 → IsClaiming p (claim_literals p c.as_slice.result.now ++ ls) c.self.inside.labels → IsClaiming p (claim_literals p xs ++ ls) c.turn_all.new.labels)
    c.as_slice-2.ensures.value c.turn_all.ensures.claiming))
    same

pub invariant_of-self : goal.invariant_of-self
invariant_of-self c = holding c c.tell.new.self c.tell.ensures.same

pub returns-clause-found : goal.returns-clause-found
returns-clause-found c =
    let plant = c.self.inside.model.now in
    let are : c.in_ok-claims.claims.items ≡ fact_claims plant c.args.facts.now = c.in_ok-claims.ensures in
    let literals : claim_literals plant c.in_ok-claims.claims.items ≡ fact_literals plant c.args.facts.now = ap (claim_literals plant) are ∙ claims_are_facts plant c.args.facts.now in
    let found = c.tell.ensures.found plant (claim_literals plant c.in_ok-claims.claims.items) (holding c c.turn_all.new.labels refl).claims in
    subst (λ (p : Plant). IfOk c.tell.result (λ told. told ≡ labelling p (fact_literals p c.args.facts.now ++ state_literals p (option_copied c.args.of)))) c.self.view_is
    (IfOk-weaker c.tell.result _ _ (λ told h. h ∙ ap (λ (ls : List Lit). labelling plant (ls ++ state_literals plant (option_copied c.args.of))) literals) found)
