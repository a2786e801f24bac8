-- Values of which the literals are added are ones that there are.
use Rattle.std.proofs.Common.{◌≡◌, ℕ, zero, suc, ◌<◌, true, List, [], ◌∷◌, length, get_or, slice_get, slice_index_or, Some, All, sym, subst, ◌∙◌, ap, arith}
use Rattle.std.proofs.lemmas.Bool.{and_parts}
use Rattle.std.proofs.lemmas.Option.{slice_get_within}
use Rattle.lv_base.specs.declared.ids.ValId.{ValId}
use Rattle.lv_base.specs.declared.ids.VarId.{VarId}
use Rattle.lv_base.specs.declared.search.Pair.{Pair}
use Rattle.lv_base.specs.declared.range.Range.{Range}
use Rattle.lv_base.specs.Fits.{has_value}
use Rattle.lv_model.specs.declared.plant.Plant.{Plant}
use Rattle.lv_model.specs.declared.plant.Part.{Part}
use Rattle.lv_model.specs.Lists.{sizes, controls}
use Rattle.lv_model.specs.Ranges.{plant_ranges}
use Rattle.lv_meaning.specs.declared.facts.Observation.{Observation}
use Rattle.lv_meaning.specs.Commands.{control_sizes}
use Rattle.lv_meaning.specs.Ranges.{modes_fit, ObservationFits}
use Rattle.lv_search_zones.specs.lv_compile.Booleans.{Booleans, booleans_now}
use Rattle.lv_search_zones.specs.lv_compile.FormulaClauses.{size_of}
use Rattle.lv_cert_writing.specs.Pairs.{HasChoice}
use Rattle.lv_cert_writing.proofs.Numbers.{have_value}
use Rattle.lv_cert_recovery.proofs.MeaningLemmas.{IsControl, control_of}

mode_fits : (rs : List Range) (ps : List Part) (vs : List ValId) (k : ℕ) (d : Part) (e : ValId) → modes_fit rs ps vs ≡ true → k < length ps → has_value rs (get_or ps k d).first.0 (get_or vs k e).0 ≡ true
mode_fits rs [] vs k d e h below = absurd (omega (arith, below))
mode_fits rs (p ∷ ps) [] k d e h below = absurd (cc h)
mode_fits rs (p ∷ ps) (v ∷ vs) zero d e h below = (and_parts (has_value rs p.first.0 v.0) (modes_fit rs ps vs) h).0
mode_fits rs (p ∷ ps) (v ∷ vs) (suc k) d e h below = mode_fits rs ps vs k d e ((and_parts (has_value rs p.first.0 v.0) (modes_fit rs ps vs) h).1) (omega (arith, below))

module _ (plant : Plant) (before : Booleans) (now : before ≡ booleans_now plant) where
  has_boolean : (x v : ℕ) → has_value (plant_ranges plant) x v ≡ true → v < size_of before x
  has_boolean x v h = subst (λ (b : Booleans). v < size_of b x) (sym now) (have_value (plant_ranges plant) x v h)

  pub mode_there : (vs : List ValId) → modes_fit (plant_ranges plant) plant.parts vs ≡ true → (k : ℕ) (p : Part) (e : ValId) (parts : List Part) → parts ≡ plant.parts → k < length parts
      → p ≡ get_or parts k p → (get_or vs k e).0 < size_of before p.first.0
  mode_there vs fit k p e parts same below at =
      let less : k < length plant.parts = subst (λ (ps : List Part). k < length ps) same below in
      let here : p ≡ get_or plant.parts k p = at ∙ ap (λ (ps : List Part). get_or ps k p) same in
      has_boolean p.first.0 (get_or vs k e).0
      (ap (λ (q : Part). has_value (plant_ranges plant) q.first.0 (get_or vs k e).0) here ∙ mode_fits (plant_ranges plant) plant.parts vs k p e fit less)

  pub seen_there : (os : List Observation) → All (ObservationFits plant) os → (i : ℕ) (d : Observation) → i < length os → (get_or os i d).val.0 < size_of before (get_or os i d).var.0
  seen_there os fit i d below = has_boolean (get_or os i d).var.0 (get_or os i d).val.0 (fit i d below).value

  pub control_there : (ps : List Pair) → All (HasChoice (control_sizes plant)) ps → (i : ℕ) (d : Pair) (e : VarId) → i < length ps → (vars : List VarId) → vars ≡ controls plant
      → (get_or ps i d).choice < size_of before (get_or vars (get_or ps i d).slot e).0
  control_there ps have i d e below vars same =
      let p : Pair = get_or ps i d in
      let c : IsControl plant p = control_of plant p (have i d below) in
      let at : get_or vars p.slot e ≡ c.control = ap (λ (cs : List VarId). get_or cs p.slot e) same ∙ got (controls plant) p.slot c.control c.at in
      subst (λ (b : Booleans). p.choice < size_of b (get_or vars p.slot e).0) (sym now) (subst (λ (x : VarId). p.choice < slice_index_or (sizes plant) x.0 0) (sym at) c.below)
    where
      got : (xs : List VarId) (k : ℕ) (x : VarId) → slice_get xs k ≡ Some x → get_or xs k e ≡ x
      got [] k x is = absurd (cc is)
      got (y ∷ ys) zero x is = cc is
      got (y ∷ ys) (suc k) x is = got ys k x is

  pub slot_there : (ps : List Pair) → All (HasChoice (control_sizes plant)) ps → (i : ℕ) (d : Pair) → i < length ps → (vars : List VarId) → vars ≡ controls plant → (get_or ps i d).slot < length vars
  slot_there ps have i d below vars same =
      let p : Pair = get_or ps i d in
      let c : IsControl plant p = control_of plant p (have i d below) in
      subst (λ (cs : List VarId). p.slot < length cs) (sym same) (slice_get_within (controls plant) p.slot c.control c.at)
