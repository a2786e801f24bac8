-- What one link more makes of the trail, and that all on it is in the closure.
use Rattle.std.proofs.Common.{◌≡◌, ◌⊎◌, ℕ, ◌+◌, ◌<◌, Bool, true, false, not, ◌||◌, List, [], ◌∷◌, ◌++◌, length, get_or, Option, Some, None, is_none, cond, count_by, refl, sym, ap, subst, ◌∙◌, arith, inl, inr}
use Rattle.std.proofs.lemmas.List.Folds.{list_any-append}
use Rattle.std.proofs.lemmas.List.Sums.{sum_by-set}
use Rattle.lv_base.specs.declared.ids.Lit.{Lit}
use Rattle.lv_clauses.specs.Literals.{neg, same_truth, same_var}
use Rattle.lv_clauses.specs.ClauseMap.{Slots}
use Rattle.lv_clauses.specs.Closure.{InClosure, assumption, unit}
use Rattle.lv_clauses.specs.Marks.{is_marked, mark_is}
use Rattle.lv_clauses.proofs.LiteralLemmas.{lit_of, and_left, and_right}
use Rattle.lv_clauses.proofs.MarkLemmas.{same_truth-equal}
use Rattle.lv_ltms.specs.declared.labels.Link.{Link}
use Rattle.lv_ltms.specs.declared.labels.Reason.{Reason}
use Rattle.lv_ltms.specs.declared.labels.Reason.TheVariants.{Assumed, Clause}
use Rattle.lv_ltms.specs.Trail.{same_lit, trail_has, IsReason, IsDerivation, start, next}
use Rattle.lv_ltms.specs.Labelled.{Labelled, with_link}
use Rattle.lv_ltms.proofs.BoolLemmas.{eq_from, or_false}

pub same_lit-equal : (a b : Lit) → same_lit a b ≡ true → a ≡ b
same_lit-equal a b e =
    lit_of a b (eq_from a.var.0 b.var.0 (and_left (same_var a b) (same_truth a.sign b.sign) e)) (same_truth-equal a.sign b.sign (and_right (same_var a b) (same_truth a.sign b.sign) e))

pub or_cases : (a b : Bool) → (a || b) ≡ true → (a ≡ true) ⊎ (b ≡ true)
or_cases true b e = inl refl
or_cases false b e = inr e

pub trail_has-push : (trail : List Link) (link : Link) (l : Lit) → trail_has (trail ++ link ∷ []) l ≡ (trail_has trail l || same_lit link.lit l)
trail_has-push trail link l =
    list_any-append (λ (k : Link). same_lit k.lit l) trail (link ∷ [])
    ∙ ap (λ b. trail_has trail l || b) (or_false (same_lit link.lit l))

unmarked : (o : Option Bool) (s : Bool) → mark_is o s ≡ false → mark_is o (not s) ≡ false → o ≡ None
unmarked None s p q = refl
unmarked (Some true) true p q = absurd (cc)
unmarked (Some true) false p q = absurd (cc)
unmarked (Some false) true p q = absurd (cc)
unmarked (Some false) false p q = absurd (cc)

abbrev number : ℕ → ℕ
number n = n

pub free_count-push : (labels : Labelled) (link : Link) → link.lit.var.0 < length labels.marks → is_marked labels.marks link.lit ≡ false → is_marked labels.marks (neg link.lit) ≡ false
    → count_by is_none (with_link labels link).marks + 1 ≡ count_by is_none labels.marks
free_count-push labels link within p q =
    let none : get_or labels.marks link.lit.var.0 None ≡ None = unmarked (get_or labels.marks link.lit.var.0 None) link.lit.sign p q in
    let one : number (cond (is_none (get_or labels.marks link.lit.var.0 None)) 1 0) ≡ 1 = ap (λ (o : Option Bool). number (cond (is_none o) 1 0)) none in
    omega (arith, one, sum_by-set (λ (o : Option Bool). cond (is_none o) 1 0) labels.marks link.lit.var.0 (Some link.lit.sign) None within)

module _ {clauses : Slots} {assumed : Lit → Bool} where
  -- all on the trail is in the closure
  pub derivation_sound : {trail : List Link} → IsDerivation clauses assumed trail → (l : Lit) → trail_has trail l ≡ true → InClosure clauses assumed l
  derivation_sound start l e = absurd (cc)
  derivation_sound (next {trail} before link derived reason grown) l e =
      by_place (or_cases (trail_has before l) (same_lit link.lit l) (sym (ap (λ (t : List Link). trail_has t l) grown ∙ trail_has-push before link l) ∙ e)) (derivation_sound derived)
    where
      reached : (k : Lit) (r : Reason) → IsReason clauses assumed before k r → ((m : Lit) → trail_has before m ≡ true → InClosure clauses assumed m) → InClosure clauses assumed k
      reached k Assumed is earlier = assumption is
      reached k (Clause id) is earlier = unit id.0 is.clause is.present is.member (λ m in_clause differs. earlier (neg m) (is.others m in_clause differs))

      by_place : (trail_has before l ≡ true) ⊎ (same_lit link.lit l ≡ true) → ((m : Lit) → trail_has before m ≡ true → InClosure clauses assumed m) → InClosure clauses assumed l
      by_place (inl here) earlier = earlier l here
      by_place (inr same) earlier = subst (InClosure clauses assumed) (same_lit-equal link.lit l same) (reached link.lit link.reason reason earlier)
