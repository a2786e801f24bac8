-- What is true of modes and moves where one is asked for each part, and of the candidate of a state by its number.
use Rattle.std.proofs.Common.{◌≡◌, ◌-◌, ◌&&◌, ℕ, suc, false, nat_eq, nat_lt, List, [], ◌∷◌, length, slice_get, Option, Some, None, if◌then◌else◌, Result, IfOk, refl, sym, ap, ap₂, ◌∙◌}
use Rattle.std.specs.List.{list_all}
use Rattle.std.specs.Option.{option_and_then}
use Rattle.std.proofs.Math.Bool.{and-false}
use Rattle.std.proofs.lemmas.List.{length-map}
use Rattle.std.proofs.lemmas.Result.{IfOk-weaker}
use Rattle.lv_base.specs.declared.rank.Rank.{Rank}
use Rattle.lv_base.specs.declared.ids.ValId.{ValId}
use Rattle.lv_base.specs.Tree.{number_of}
use Rattle.lv_model.specs.declared.plant.ComponentType.{ComponentType}
use Rattle.lv_model.specs.declared.plant.Part.{Part}
use Rattle.lv_model.specs.declared.plant.Plant.{Plant}
use Rattle.lv_model.specs.declared.state.TrackedState.{TrackedState}
use Rattle.lv_meaning.specs.Candidates.{type_moves}
use Rattle.lv_meaning.specs.CandidateLaws.{goes_from, are_moves}
use Rattle.lv_meaning.specs.Recovers.{has_modes}
use Rattle.lv_cert_meaning.specs.Counting.{is_one_of, places_of, at_number}
use Rattle.lv_cert_meaning.specs.Stated.{rank_from}
use Rattle.lv_cert_meaning.proofs.NumberLemmas.{none_at, some_at}

pub not_as_many_modes : (parts : List Part) (modes a : List ValId) → (length parts ≡ length modes → ⊥) → has_modes parts modes a ≡ false
not_as_many_modes [] [] a h = absurd (h refl)
not_as_many_modes [] (v ∷ vs) a h = refl
not_as_many_modes (p ∷ ps) [] a h = refl
not_as_many_modes (p ∷ ps) (v ∷ vs) a h =
    ap (λ b. nat_eq (number_of a p.first.0) v.0 && b) (not_as_many_modes ps vs a (λ e. h (ap suc e))) ∙ and-false (nat_eq (number_of a p.first.0) v.0)

pub not_as_many_moves : (types : List ComponentType) (parts : List Part) (modes : List ValId) (choices : List ℕ) → (length choices ≡ length parts → ⊥) → are_moves types parts modes choices ≡ false
not_as_many_moves types [] modes [] h = absurd (h refl)
not_as_many_moves types [] modes (c ∷ cs) h = refl
not_as_many_moves types (p ∷ ps) [] choices h = refl
not_as_many_moves types (p ∷ ps) (v ∷ vs) [] h = refl
not_as_many_moves types (p ∷ ps) (v ∷ vs) (c ∷ cs) h =
    ap (λ b. goes_from (type_moves types p) v.0 c && b) (not_as_many_moves types ps vs cs (λ e. h (ap suc e))) ∙ and-false (goes_from (type_moves types p) v.0 c)

-- so numbers that aren't as many as the parts are no moves of theirs
pub no_moves : (types : List ComponentType) (parts : List Part) (modes : List ValId) (ns : List ℕ) → (length ns ≡ length parts → ⊥)
    → None ≡ (if list_all (nat_lt 0) ns && are_moves types parts modes (places_of ns) then Some (places_of ns) else None)
no_moves types parts modes ns h =
    let none = not_as_many_moves types parts modes (places_of ns) (λ e. h (sym (length-map ns (λ (n : ℕ). n - 1)) ∙ e)) in
    sym (ap (λ b. if b then Some (places_of ns) else None) (ap (λ b. list_all (nat_lt 0) ns && b) none ∙ and-false (list_all (nat_lt 0) ns)))

module _ (plant : Plant) (tracked : List TrackedState) (s : ℕ) (moves : List ℕ) where
  abbrev found_of : Option Rank
  found_of = option_and_then (rank_from plant (s - 1) moves) (at_number tracked s)

  pub no_candidate : None ≡ (if is_one_of (length tracked) s then Some (s - 1) else None) → None ≡ found_of
  no_candidate h = sym (ap (option_and_then (rank_from plant (s - 1) moves)) (none_at tracked s h))

  -- what goes on from the state at the place is what goes on from the state of the number
  pub candidate_is : {E : Type 0} (same : Plant) (place : ℕ) (state : TrackedState) (r : Result (Option Rank) E) → same ≡ plant
      → Some place ≡ (if is_one_of (length tracked) s then Some (s - 1) else None) → slice_get tracked place ≡ Some state
      → IfOk r (λ found. found ≡ rank_from same place moves state) → IfOk r (λ found. found ≡ found_of)
  candidate_is same place state r is one here =
      IfOk-weaker r (λ found. found ≡ rank_from same place moves state) (λ found. found ≡ found_of)
      (λ found h.
      let two = some_at tracked s place one in
      let there : at_number tracked s ≡ Some state = two.1 ∙ ap (slice_get tracked) (sym two.0) ∙ here in
      h ∙ ap₂ (λ (p : Plant) (n : ℕ). rank_from p n moves state) is two.0 ∙ sym (ap (option_and_then (rank_from plant (s - 1) moves)) there))
