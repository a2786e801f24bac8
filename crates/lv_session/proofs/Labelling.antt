-- What the session's state gives for labels: facts of values that variables have, few of them, and modes that parts have.
use Rattle.std.proofs.Common.{◌≡◌, ℕ, ◌≤◌, true, List, [], ◌∷◌, length, map, Option, Some, None, slice_get, ◌-◌, refl, sym, ap, arith, All}
use Rattle.std.specs.Option.{option_map_or}
use Rattle.std.specs.Cmp.Derive.{both_true}
use Rattle.std.proofs.lemmas.Bool.{and_parts, lt-ltb}
use Rattle.std.proofs.lemmas.List.{length-map, length-append}
use Rattle.std.proofs.lemmas.List.Elements.{All-cons, All-append, All-head, All-tail, All-nil}
use Rattle.lv_base.specs.declared.ids.ValId.{ValId}
use Rattle.lv_base.specs.declared.ids.VarId.{VarId}
use Rattle.lv_model.specs.declared.plant.Plant.{Plant}
use Rattle.lv_model.specs.declared.plant.Part.{Part}
use Rattle.lv_model.specs.declared.state.TrackedState.{TrackedState}
use Rattle.lv_model.proofs.Reading.{All-at, few_variables}
use Rattle.lv_model.specs.Lists.{sizes, controls}
use Rattle.lv_model.specs.WellFormed.{is_well_formed}
use Rattle.lv_model.specs.Ranges.{plant_ranges}
use Rattle.lv_base.specs.Fits.{has_value}
use Rattle.lv_session_state.specs.lv_meaning.declared.facts.Observation.{Observation}
use Rattle.lv_session_state.specs.lv_meaning.Facts.{commanded, now_facts, HasValue}
use Rattle.lv_session_state.specs.lv_system.lv_compile.Booleans.{booleans_now}
use Rattle.lv_session_state.specs.lv_system.lv_compile.FormulaClauses.{size_of}
use Rattle.lv_session_state.proofs.lv_ident.lv_search_zones.ControlLemmas.{few_controls}
use Rattle.lv_session_state.specs.lv_meaning.Ranges.{modes_fit, StateFits}
use Rattle.lv_reply.specs.declared.reply.Refusal.TheVariants.{OutOfLimits}
use Rattle.lv_reply.specs.declared.reply.Reply.TheVariants.{Refused}
use Rattle.lv_reply.specs.declared.labels.Moment.{Moment}
use Rattle.lv_reply.specs.declared.labels.Moment.TheVariants.{Now, Next}
use Rattle.lv_labels.specs.Literals.{values_of}
use Rattle.lv_labels.specs.Modes.{are_values}
use Rattle.lv_labels.specs.Holding.{claim_at, IsClaimIn, AreFactsIn, HasOwnModes}
use Rattle.lv_session_state.proofs.lv_model_names.ScopeLemmas.{below_size}
use Rattle.lv_session_state.specs.lv_session_request.Held.{observation_of}
use Rattle.lv_session_state.specs.State.{SessionState, Stepped, unchanged, facts_of}
use Rattle.lv_session.specs.Session.{labelled, labelled_from}
use Rattle.lv_session_state.specs.States.{IsStateOf}
use Rattle.lv_session_state.proofs.Asking.{facts_fit, facts_in_range}

-- before the step and after it a variable has as many values
claim_below : (plant : Plant) (moment : Moment) (o : Observation) → HasValue (sizes plant) o → IsClaimIn (values_of plant) (claim_at moment o)
claim_below plant Now o has = record { below = has.below }
claim_below plant Next o has = record { below = has.below }

claims_below : (plant : Plant) (moment : Moment) (os : List Observation) → All (HasValue (sizes plant)) os → All (IsClaimIn (values_of plant)) (map (claim_at moment) os)
claims_below plant moment [] all = All-nil (IsClaimIn (values_of plant))
claims_below plant moment (o ∷ os) all =
    All-cons (IsClaimIn (values_of plant)) (claim_at moment o) (map (claim_at moment) os) (claim_below plant moment o (All-head (HasValue (sizes plant)) o os all))
    (claims_below plant moment os (All-tail (HasValue (sizes plant)) o os all))

few_commanded : (cs : List VarId) (vs : List ValId) → length (commanded cs vs) ≤ length vs
few_commanded [] vs = omega arith
few_commanded (c ∷ cs) [] = omega arith
few_commanded (c ∷ cs) (v ∷ vs) = let rest = few_commanded cs vs in omega (arith, rest)

pub facts_are_in : (plant : Plant) (state : SessionState) → is_well_formed plant ≡ true → IsStateOf plant state → AreFactsIn plant (facts_of state)
facts_are_in plant state h is =
    let few = few_controls plant plant refl (few_variables plant h) (controls plant) refl in
    let range = facts_in_range plant state is in
    let before = length-map (now_facts plant (facts_of state)) (claim_at Now) in
    let after = length-map (map observation_of state.next) (claim_at Next) in
    let both = length-append (map (claim_at Now) (now_facts plant (facts_of state))) (map (claim_at Next) (map observation_of state.next)) in
    let now = length-append (commanded (controls plant) state.controls) (map observation_of state.present) in
    let seen = length-map state.present observation_of in
    let next = length-map state.next observation_of in
    let controls = few_commanded (controls plant) state.controls in
    let whole = is.controls_whole in
    let held = is.held in
    record {
      fit = facts_fit plant state is;
      claims =
          All-append (IsClaimIn (values_of plant)) (map (claim_at Now) (now_facts plant (facts_of state))) (map (claim_at Next) (map observation_of state.next))
          (claims_below plant Now (now_facts plant (facts_of state)) range.now) (claims_below plant Next (map observation_of state.next) range.next);
      few = omega (arith, before, after, both, now, seen, next, controls, whole, held, few);
    }

-- the modes of a tracked state are values of the parts' modes
modes_are : (plant : Plant) (ps : List Part) (vs : List ValId) → modes_fit (plant_ranges plant) ps vs ≡ true → are_values (booleans_now plant) (map (λ (p : Part). p.first) ps) vs ≡ true
modes_are plant [] [] fit = refl
modes_are plant [] (v ∷ vs) fit = absurd (cc fit)
modes_are plant (p ∷ ps) [] fit = refl
modes_are plant (p ∷ ps) (v ∷ vs) fit =
    let two = and_parts (has_value (plant_ranges plant) p.first.0 v.0) (modes_fit (plant_ranges plant) ps vs) fit in
    both_true (lt-ltb v.0 (size_of (booleans_now plant) p.first.0) (below_size (plant_ranges plant) p.first.0 v.0 two.0)) (modes_are plant ps vs two.1)

pub own_modes : (plant : Plant) (modes : List ValId) → modes_fit (plant_ranges plant) plant.parts modes ≡ true → HasOwnModes plant (Some (record { modes = modes }))
own_modes plant modes fit = modes_are plant plant.parts modes fit

module _ (plant : Plant) (state : SessionState) (n : ℕ) where
  -- the tracked state of this number, counted from 1, if there is one
  pub numbered_modes : (s : TrackedState) → IsStateOf plant state → slice_get state.tracked (n - 1) ≡ Some s → HasOwnModes plant (Some s.state)
  numbered_modes s is here = own_modes plant s.state.modes (All-at (StateFits plant) state.tracked (n - 1) s is.fit here).modes

  abbrev by_number : Option TrackedState → Stepped
  by_number o = option_map_or (λ (s : TrackedState). labelled plant state (Some s.state)) o (unchanged state (Refused OutOfLimits))

  pub numbered : (s : TrackedState) → slice_get state.tracked (n - 1) ≡ Some s → labelled plant state (Some s.state) ≡ labelled_from plant state n
  numbered s here = sym (ap by_number here)

  pub no_such_number : slice_get state.tracked (n - 1) ≡ None → unchanged state (Refused OutOfLimits) ≡ labelled_from plant state n
  no_such_number nowhere = sym (ap by_number nowhere)
