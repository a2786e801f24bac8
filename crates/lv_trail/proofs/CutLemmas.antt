-- The way back from an entry to the first choice behind the one seen before it.
use Rattle.std.proofs.Common.{◌≡◌, ℕ, ◌+◌, ◌<◌, ◌≤◌, Bool, false, List, [], ◌∷◌, ◌++◌, length, filter, cond, take, get_or, Option, Some, None, is_some, IfSome, IfNone, refl, sym, ap, subst, ◌∙◌}
use Rattle.std.proofs.lemmas.List.{get_or_default, take_more, append-nil}
use Rattle.std.proofs.lemmas.List.Elements.{filter-append}
use Rattle.lv_clauses.specs.declared.log.Hint.{Hint}
use Rattle.lv_trail.specs.declared.trail.Entry.{Entry}
use Rattle.lv_trail.specs.Trail.{lits_of}
use Rattle.lv_trail.specs.Analysis.{sees, needed, choice_or, HasReason, IsApart, IsChoiceOr}
use Rattle.lv_trail.proofs.TrailLemmas.{lits_push}

module _ (entries : List Entry) where
  -- an entry that wasn't seen is none of those needed
  pub needed_less : (seen : List Bool) (at : ℕ) (d : Entry) → at < length entries → sees seen (get_or entries at d).lit ≡ false → needed seen (take (at + 1) entries) ≡ needed seen (take at entries)
  needed_less seen at d within unseen =
      ap (λ (es : List Entry). filter (sees seen) (lits_of es)) (take_more entries at d within)
      ∙ ap (filter (sees seen)) (lits_push (take at entries) (get_or entries at d))
      ∙ filter-append (sees seen) (lits_of (take at entries)) ((get_or entries at d).lit ∷ [])
      ∙ ap (λ b. filter (sees seen) (lits_of (take at entries)) ++ cond b ((get_or entries at d).lit ∷ []) []) unseen
      ∙ append-nil (filter (sees seen) (lits_of (take at entries)))

  -- a choice met on the way back is a cut
  pub cut_step : (seen : List Bool) (floor at below : ℕ) (d : Entry) (old new : Option ℕ) → IsChoiceOr entries below old new → below < length entries → floor ≤ below → below ≤ at → needed seen (take at entries) ≡ needed seen (take below entries)
      → IfSome old (λ cut. IsApart seen entries floor at cut) → IfSome new (λ cut. IsApart seen entries floor at cut)
  cut_step seen floor at below d old new is within above before unseen was = by_reason (get_or entries below d).reason refl
    where
      by_reason : (r : Option Hint) → (get_or entries below d).reason ≡ r → IfSome new (λ cut. IsApart seen entries floor at cut)
      by_reason None e =
          subst (λ (o : Option ℕ). IfSome o (λ cut. IsApart seen entries floor at cut)) (sym (is d ∙ ap (λ r. choice_or r below old) e))
          (record { above = above; before = before; chosen = λ k. ap (λ (j : Entry). j.reason) (get_or_default entries below k d within) ∙ e; unseen = unseen })
      by_reason (Some h) e = subst (λ (o : Option ℕ). IfSome o (λ cut. IsApart seen entries floor at cut)) (sym (is d ∙ ap (λ r. choice_or r below old) e)) was

  -- where none is found, the entry at the place is forced
  pub forced_step : (at below : ℕ) (d : Entry) (old new : Option ℕ) → IsChoiceOr entries below old new → IfNone old (HasReason entries at) → IfNone new (HasReason entries at)
  forced_step at below d old new is was = by_reason (get_or entries below d).reason refl
    where
      by_reason : (r : Option Hint) → (get_or entries below d).reason ≡ r → IfNone new (HasReason entries at)
      by_reason None e = subst (λ (o : Option ℕ). IfNone o (HasReason entries at)) (sym (is d ∙ ap (λ r. choice_or r below old) e)) tt
      by_reason (Some h) e = subst (λ (o : Option ℕ). IfNone o (HasReason entries at)) (sym (is d ∙ ap (λ r. choice_or r below old) e)) was

  pub forced_start : (at : ℕ) (d : Entry) (new : Option ℕ) → at < length entries → IsChoiceOr entries at None new → IfNone new (HasReason entries at)
  forced_start at d new within is = by_reason (get_or entries at d).reason refl
    where
      by_reason : (r : Option Hint) → (get_or entries at d).reason ≡ r → IfNone new (HasReason entries at)
      by_reason None e = subst (λ (o : Option ℕ). IfNone o (HasReason entries at)) (sym (is d ∙ ap (λ r. choice_or r at None) e)) tt
      by_reason (Some h) e =
          subst (λ (o : Option ℕ). IfNone o (HasReason entries at)) (sym (is d ∙ ap (λ r. choice_or r at None) e))
          (λ k. ap is_some (ap (λ (j : Entry). j.reason) (get_or_default entries at k d within) ∙ e))
