-- The numbers in what a line asks for are in range.
use Rattle.std.proofs.Common.{◌≡◌, ℕ, Bool, true, false, cond, List, position, slice_get, Option, Some, None, option_map, Result, Ok, Err, refl, sym, ap, subst, ◌∙◌}
use Rattle.std.specs.Option.{ok_or}
use Rattle.std.specs.Result.{IfOk}
use Rattle.std.proofs.lemmas.Bool.{eqb-true}
use Rattle.std.proofs.lemmas.List.Quantifiers.{position-Some}
use Rattle.std.proofs.lemmas.Option.{get_or_from_slice_get}
use Rattle.lv_base.specs.declared.ids.ValId.{ValId}
use Rattle.lv_base.specs.declared.ids.VarId.{VarId}
use Rattle.lv_base.specs.Fits.{has_value}
use Rattle.lv_model.specs.declared.plant.Plant.{Plant}
use Rattle.lv_model.specs.Lists.{controls, is_variable}
use Rattle.lv_model.specs.Ranges.{plant_ranges}
use Rattle.lv_reply.specs.declared.reply.Refusal.{Refusal}
use Rattle.lv_reply.specs.declared.reply.Refusal.TheVariants.{NoControl, NoObservable, NoValue}
use Rattle.lv_model_names.specs.declared.lists.Lists.{Lists}
use Rattle.lv_model_names.specs.Lists.{lists_of}
use Rattle.lv_model_names.specs.Names.{value_of, is_observable}
use Rattle.lv_model_names.proofs.ScopeLemmas.{value_fits}
use Rattle.lv_session_request.specs.Chain.{and_then}
use Rattle.lv_session_request.specs.declared.names.Controlled.{Controlled}
use Rattle.lv_session_request.specs.Names.{control_among, control_of, observable_among, observable_of, value_in, variable_named}
use Rattle.lv_session_request.specs.Requests.{IsSightingIn, IsCommandIn, IsObservableOf}

-- numbers in range

found : {X : Type 0} (o : Option X) (refusal : Refusal) (x : X) → ok_or o refusal ≡ Ok x → o ≡ Some x
found None refusal x h = absurd (cc)
found (Some y) refusal x h = let e : y ≡ x = cc h in ap Some e

value_named : (plant : Plant) (lists : Lists) (x : VarId) (name : List ℕ) (v : ValId) → lists ≡ lists_of plant → value_in plant lists x name ≡ Ok v → has_value (plant_ranges plant) x.0 v.0 ≡ true
value_named plant lists x name v same h =
    value_fits plant x name v (ap (λ (l : Lists). value_of plant l.ranges x name) (sym same) ∙ found (value_of plant lists.ranges x name) NoValue v h)

stands : (n : ℕ) (x y : VarId) (vs : List VarId) → position (is_variable x.0) vs ≡ Some n → slice_get vs n ≡ Some y → is_variable x.0 y ≡ true
stands n x y vs e at = subst (λ (v : VarId). is_variable x.0 v ≡ true) (get_or_from_slice_get vs n y y at) (position-Some (is_variable x.0) vs n y e).1

-- the control at its place is the variable
control_stands : (controls : List VarId) (x : VarId) (c : Controlled) → control_among controls x ≡ Ok c → (y : VarId) → slice_get controls c.place ≡ Some y → y.0 ≡ c.var.0
control_stands controls x c h y here = by (position (is_variable x.0) controls) refl h
  where
    by : (o : Option ℕ) → position (is_variable x.0) controls ≡ o → ok_or (option_map (λ place. record { place = place; var = x }) o) NoControl ≡ Ok c → y.0 ≡ c.var.0
    by None e g = absurd (cc)
    by (Some n) e g =
        let same : record { place = n; var = x } ≡ c = cc g in
        let place : n ≡ c.place = ap (λ (d : Controlled). d.place) same in
        let at : slice_get controls n ≡ Some y = ap (slice_get controls) place ∙ here in
        eqb-true y.0 x.0 (stands n x y controls e at) ∙ ap (λ (d : Controlled). d.var.0) same

control_named : (plant : Plant) (lists : Lists) (part name : List ℕ) (c : Controlled) → control_of plant lists part name ≡ Ok c → (y : VarId) → slice_get lists.controls c.place ≡ Some y → y.0 ≡ c.var.0
control_named plant lists part name c h y here = by (variable_named plant part name) h
  where
    by : (r : Result VarId Refusal) → and_then r (control_among lists.controls) ≡ Ok c → y.0 ≡ c.var.0
    by (Ok x) g = control_stands lists.controls x c g y here
    by (Err refusal) g = absurd (cc)

pub command_fits : (plant : Plant) (lists : Lists) (part name value : List ℕ) (c : Controlled) (v : ValId) → lists ≡ lists_of plant → control_of plant lists part name ≡ Ok c
    → value_in plant lists c.var value ≡ Ok v → IsCommandIn plant (record { place = c.place; value = v })
command_fits plant lists part name value c v same control is =
    record {
      value = λ x here.
          let var = control_named plant lists part name c control x (ap (λ (l : Lists). slice_get l.controls c.place) same ∙ here) in
          subst (λ n. has_value (plant_ranges plant) n v.0 ≡ true) (sym var) (value_named plant lists c.var value v same is);
    }

-- a variable that is found among the observables is one
observable_stands : (lists : Lists) (x y : VarId) → observable_among lists x ≡ Ok y → is_observable lists.classes y.0 ≡ true
observable_stands lists x y h = by (is_observable lists.classes x.0) refl h
  where
    by : (b : Bool) → is_observable lists.classes x.0 ≡ b → cond b (Ok x) (Err NoObservable) ≡ Ok y → is_observable lists.classes y.0 ≡ true
    by true is e = let same : x ≡ y = cc e in ap (λ (z : VarId). is_observable lists.classes z.0) (sym same) ∙ is
    by false is e = absurd (cc)

observable_named : (plant : Plant) (lists : Lists) (part name : List ℕ) (x : VarId) → observable_of plant lists part name ≡ Ok x → is_observable lists.classes x.0 ≡ true
observable_named plant lists part name x h = by (variable_named plant part name) h
  where
    by : (r : Result VarId Refusal) → and_then r (observable_among lists) ≡ Ok x → is_observable lists.classes x.0 ≡ true
    by (Ok y) g = observable_stands lists y x g
    by (Err refusal) g = absurd (cc)

pub sighting_fits : (plant : Plant) (lists : Lists) (name part variable value : List ℕ) (x : VarId) (v : ValId) → lists ≡ lists_of plant → observable_of plant lists part variable ≡ Ok x
    → value_in plant lists x value ≡ Ok v → IsSightingIn plant (record { name = name; var = x; val = v })
sighting_fits plant lists name part variable value x v same seen is = record {
  observable = ap (λ (l : Lists). is_observable l.classes x.0) (sym same) ∙ observable_named plant lists part variable x seen;
  value = value_named plant lists x value v same is;
}

pub tested_fits : (plant : Plant) (lists : Lists) (part name : List ℕ) (x : VarId) → lists ≡ lists_of plant → observable_of plant lists part name ≡ Ok x → IsObservableOf plant x
tested_fits plant lists part name x same is = record { observable = ap (λ (l : Lists). is_observable l.classes x.0) (sym same) ∙ observable_named plant lists part name x is }

pub tested_all : (plant : Plant) (lists : Lists) (part name : List ℕ) (r : Result VarId Refusal) → lists ≡ lists_of plant → r ≡ observable_of plant lists part name → IfOk r (IsObservableOf plant)
tested_all plant lists part name (Ok x) same is = tested_fits plant lists part name x same (sym is)
tested_all plant lists part name (Err refusal) same is = tt
