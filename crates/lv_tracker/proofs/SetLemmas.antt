-- Adding a state to the set of those that were seen.
use Rattle.std.proofs.Common.{◌≡◌, Bool, true, false, List, [], ◌∷◌, ◌++◌, ◌||◌, cond, refl, ◌∙◌, ap, ap₂}
use Rattle.std.specs.List.{list_any}
use Rattle.std.specs.Cmp.Lexicographic.{pointwise}
use Rattle.std.proofs.lemmas.List.{map-append}
use Rattle.lv_model.specs.declared.state.TrackedState.{TrackedState}
use Rattle.lv_tracker.specs.declared.distinct.ByModes.{ByModes}
use Rattle.lv_tracker.specs.Distinct.{is_same_mode, has_modes, with_new}
use Rattle.lv_tracker.specs.Sets.{modes_of, states_of, modes_equiv}

-- a key of a state's modes is there where a state with them is
any_key : (k : ByModes) (ks : List ByModes) → list_any (λ (j : ByModes). pointwise is_same_mode (modes_of k) (modes_of j)) ks ≡ list_any (has_modes (modes_of k)) (states_of ks)
any_key k [] = refl
any_key k (j ∷ ks) = ap₂ (λ (a b : Bool). a || b) (modes_equiv.symm (modes_of k) (modes_of j)) (any_key k ks)

states_of_cond : (b : Bool) (k : ByModes) (ks : List ByModes) → states_of (cond b ks (ks ++ k ∷ [])) ≡ cond b (states_of ks) (states_of ks ++ k.tracked ∷ [])
states_of_cond true k ks = refl
states_of_cond false k ks = map-append (λ (j : ByModes). j.tracked) ks (k ∷ [])

-- a set with one more key
pub added : (k : ByModes) (old new : List ByModes) (s : TrackedState) → k.tracked ≡ s
    → new ≡ cond (list_any (λ (j : ByModes). pointwise is_same_mode (modes_of k) (modes_of j)) old) old (old ++ k ∷ [])
    → states_of new ≡ with_new (states_of old) s
added k old new s is inserted =
    ap states_of inserted ∙ states_of_cond _ k old ∙ ap (λ b. cond b (states_of old) (states_of old ++ k.tracked ∷ [])) (any_key k old) ∙ ap (with_new (states_of old)) is
