-- A value is settled, and at the end all are: what the calls say, joined.
use Rattle.std.proofs.Common.{◌≡◌, ◌+◌, ◌<◌, ◌≤◌, ℕ, true, List, [], ◌∷◌, ◌++◌, length, take, drop, get_or, Option, Some, None, refl, sym, subst, ap, ap₂, ◌∙◌, arith}
use Rattle.lv_base.specs.declared.ids.Lit.{Lit}
use Rattle.lv_base.specs.declared.ids.ValId.{ValId}
use Rattle.lv_clauses.specs.Literals.{in_range, lit_holds}
use Rattle.lv_model.specs.declared.plant.Plant.{Plant}
use Rattle.lv_model.specs.Lists.{sizes}
use Rattle.lv_meaning.specs.Possible.{value}
use Rattle.lv_system.specs.lv_compile.Booleans.{booleans_now, booleans_next, bool_count}
use Rattle.lv_plant_step.specs.declared.asked.Asked.{Asked}
use Rattle.lv_plant_step.specs.declared.asked.PlantStep.{PlantStep}
use Rattle.lv_plant_step.specs.declared.lead.Lead.{Lead}
use Rattle.lv_plant_step.specs.PlantSteps.{places, plant_step}
use Rattle.lv_plant_step.specs.Assuming.{Assumption, SaysMore}
use Rattle.lv_plant_step.specs.Finding.{place_literal, Asks, CanLead, LeadsTo, NoneBelow, IsLed}
use Rattle.lv_plant_step.proofs.SolutionLemmas.{value_below}
use Rattle.lv_plant_step.proofs.LeadLemmas.{no_value, place_in_range, lead_asks, led_first, led_on, own_lead, none_more, led_last, none_at_all}
use Rattle.lv_plant_step.proofs.StepLemmas.{step_told, none_told}

-- a lead over a plant, both as they are called in a loop
module _ (plant : Plant) (lead : Lead) (place : ℕ) (can : CanLead plant lead) (inside : place < length (places plant)) (p : Plant) (same : p ≡ plant) (given : List ValId) (are : given ≡ lead.values) where
  -- its value at the place is one of the variable's, and so is a smaller one
  pub last_below : (get_or given place no_value).0 < get_or (places p) place 0
  last_below =
      let below : (get_or lead.values place no_value).0 < get_or (places plant) place 0 = value_below (places plant) lead.values can.values place inside in
      subst (λ (x : Plant). (get_or given place no_value).0 < get_or (places x) place 0) (sym same)
      (subst (λ (vs : List ValId). (get_or vs place no_value).0 < get_or (places plant) place 0) (sym are) below)

  pub tried_below : (v : ℕ) → v < (get_or given place no_value).0 → v < get_or (places p) place 0
  tried_below v less = let below = last_below in omega (arith, less, below)

  pub last_in_range : (now : Lead) → now ≡ lead → (l : Lit) → l ≡ place_literal (booleans_now p) (booleans_next p) place (get_or given place no_value).0 → in_range now.assumed.bools l ≡ true
  last_in_range now now_is l is =
      ap₂ in_range (ap (λ (x : Lead). x.assumed.bools) now_is ∙ can.bools ∙ ap bool_count (sym same)) is ∙ place_in_range p place (get_or given place no_value).0 last_below

-- what was found with a smaller value
module _ (plant : Plant) (asked : Asked) (lead : Lead) (place v : ℕ) (inside : place < length (places plant)) (led : IsLed plant asked place lead)
    (none : NoneBelow plant asked (take place lead.values) v) (p : Plant) (same : p ≡ plant) (now : Lead) (now_is : now ≡ lead) (found : Option Lead)
    (leads : IsLed p asked place now → LeadsTo p asked (take place now.values ++ value v ∷ []) found) where
  told : LeadsTo plant asked (take place lead.values ++ value v ∷ []) found
  told =
      subst (λ (x : Lead). IsLed plant asked place x → LeadsTo plant asked (take place x.values ++ value v ∷ []) found) now_is
      (subst (λ (x : Plant). IsLed x asked place now → LeadsTo x asked (take place now.values ++ value v ∷ []) found) same leads) led

  pub earlier_led : (new : Lead) → found ≡ Some new → IsLed plant asked (place + 1) new
  earlier_led new is = led_on plant asked place lead new (value v) inside led none (subst (λ (o : Option Lead). LeadsTo plant asked (take place lead.values ++ value v ∷ []) o) is told)

  pub none_earlier : found ≡ None → NoneBelow plant asked (take place lead.values) (v + 1)
  none_earlier is = none_more plant asked (take place lead.values) v none (subst (λ (o : Option Lead). LeadsTo plant asked (take place lead.values ++ value v ∷ []) o) is told)

-- no smaller value than the lead's own will do
pub own_led : (plant : Plant) (asked : Asked) (lead : Lead) (place v : ℕ) → place < length (places plant) → CanLead plant lead → IsLed plant asked place lead
    → NoneBelow plant asked (take place lead.values) v → (p : Plant) → p ≡ plant → (now : Lead) → now ≡ lead → (given : List ValId) → given ≡ lead.values
    → (get_or given place no_value).0 ≤ v → (l : Lit) → l ≡ place_literal (booleans_now p) (booleans_next p) place (get_or given place no_value).0 → (new : Assumption)
    → SaysMore now.assumed new (λ values. lit_holds values l) → IsLed plant asked (place + 1) (record { assumed = new; values = now.values })
own_led plant asked lead place v inside can led none p same now now_is given are last l is new more =
    subst (λ (vs : List ValId). IsLed plant asked (place + 1) (record { assumed = new; values = vs })) (sym (ap (λ (x : Lead). x.values) now_is))
    (led_on plant asked place lead (record { assumed = new; values = lead.values }) own inside led below (own_lead plant asked place lead new own inside led refl asks))
  where
    own : ValId
    own = get_or lead.values place no_value

    same_own : (get_or given place no_value).0 ≡ own.0
    same_own = ap (λ (vs : List ValId). (get_or vs place no_value).0) are

    below : NoneBelow plant asked (take place lead.values) own.0
    below =
        record {
          none =
              λ u less vs so.
              let e = same_own in
              none.none u (omega (arith, less, last, e)) vs so;
        }

    asks : Asks plant asked (take place lead.values ++ own ∷ []) new
    asks =
        lead_asks plant asked place lead own now.assumed new l can (value_below (places plant) lead.values can.values place inside) led (ap (λ (x : Lead). x.assumed) now_is)
        (is
        ∙ ap (λ (x : Plant). place_literal (booleans_now x) (booleans_next x) place (get_or given place no_value).0) same
        ∙ ap (λ (n : ℕ). place_literal (booleans_now plant) (booleans_next plant) place n) same_own)
        more

-- all values are settled, or there is no step
module _ (plant : Plant) (asked : Asked) (found : Option Lead) (leads : LeadsTo plant asked [] found) where
  pub nothing_settled : found ≡ None → None ≡ plant_step plant asked
  nothing_settled is = none_told plant asked (none_at_all plant asked (subst (λ (o : Option Lead). LeadsTo plant asked [] o) is leads))

  pub step_settled : (lead new : Lead) → found ≡ Some lead → (p : Plant) → p ≡ plant → (IsLed p asked 0 lead → IsLed p asked (length (places p)) new)
      → (given : List ValId) → given ≡ new.values → (width : ℕ) → width ≡ length (sizes plant) → (s : PlantStep) → s ≡ record { before = take width given; after = drop width given }
      → Some s ≡ plant_step plant asked
  step_settled lead new is p same settles given are width wide s split =
      step_told plant asked new.values s width wide
      (led_last plant asked new
      (subst (λ (x : Plant). IsLed x asked 0 lead → IsLed x asked (length (places x)) new) same settles
      (led_first plant asked lead (subst (λ (o : Option Lead). LeadsTo plant asked [] o) is leads))))
      (split ∙ ap (λ (vs : List ValId). record { before = take width vs; after = drop width vs }) are)
