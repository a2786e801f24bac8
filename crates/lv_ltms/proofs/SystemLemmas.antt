-- What the labels that are kept tell of the clauses and assumptions present.
use Rattle.std.proofs.Common.{◌≡◌, ◌≢◌, ◌⊎◌, ℕ, Bool, true, false, ◌||◌, nat_eq, List, [], ◌∷◌, length, get_or, Option, Some, None, is_none, is_some, cond, find, option_map, refl, sym, ap, subst, ◌∙◌, arith, inl, inr, Contains}
use Rattle.std.proofs.lemmas.Bool.Decides.{nat_tests}
use Rattle.std.proofs.Math.Seq.{take-length}
use Rattle.lv_base.specs.declared.ids.Lit.{Lit}
use Rattle.lv_base.specs.declared.ids.ClauseId.{ClauseId}
use Rattle.lv_clauses.specs.Literals.{neg, same_var}
use Rattle.lv_clauses.specs.ClauseMap.{Slots, clause_at}
use Rattle.lv_clauses.specs.Closure.{InClosure, IsContradictory, unit, both_signs, empty_clause}
use Rattle.lv_clauses.specs.Laws.{IsClosed}
use Rattle.lv_clauses.specs.Marks.{Marks, is_marked, is_free}
use Rattle.lv_clauses.proofs.LiteralLemmas.{Contains-head, any_member, lit_cases}
use Rattle.lv_clauses.proofs.ClosureLemmas.{least}
use Rattle.lv_ltms.specs.declared.labels.Link.{Link}
use Rattle.lv_ltms.specs.declared.labels.Reason.{Reason}
use Rattle.lv_ltms.specs.declared.labels.Reason.TheVariants.{Assumed}
use Rattle.lv_ltms.specs.Trail.{same_lit, trail_has, IsDerivation, reason_in}
use Rattle.lv_ltms.specs.Labelled.{Labelled, Agrees, support_at, support_if_marked}
use Rattle.lv_ltms.specs.Watching.{Rows, lit_at, IsGuarded}
use Rattle.lv_ltms.specs.Standing.{Stops, TellsEmpty, NoneEmpty, true_before}
use Rattle.lv_ltms.specs.System.{System, IsKept, IsDerived, IsRefuted, IsWholeTrail}
use Rattle.lv_ltms.proofs.TrailLemmas.{derivation_sound, same_lit-equal}
use Rattle.lv_ltms.proofs.LabelLemmas.{not_free_cases, has_not_free, has_not_neg, contained_has}
use Rattle.lv_ltms.proofs.FindLemmas.{found_passes, none_passes}
use Rattle.lv_ltms.proofs.BoolLemmas.{eq_from, or_parts}

-- a clause whose literals are all negated in the closure contradicts it
refuted_by : (slots : Slots) (assumed : Lit → Bool) (id : ℕ) (c : List Lit) → clause_at slots id ≡ Some c → ((m : Lit) → Contains c m → InClosure slots assumed (neg m)) → IsContradictory slots assumed
refuted_by slots assumed id [] at all = empty_clause id at
refuted_by slots assumed id (m ∷ ms) at all = both_signs m (unit id (m ∷ ms) at (Contains-head m ms) (λ k in_clause differs. all k in_clause)) (all m (Contains-head m ms))

module _ {s : System} {near far : Rows} {labels : Labelled} {done : ℕ} {conflict empty : Option ClauseId} {space : ℕ} (kept : IsKept s near far labels done conflict empty space) where
  -- what is marked is derived
  pub marked_derived : (l : Lit) → is_marked labels.marks l ≡ true → IsDerived s l
  marked_derived l e = derivation_sound kept.derivation l (sym (kept.network.are_labels.agrees.same l) ∙ e)

  -- a clause that is false contradicts, and so does one without literals
  pub some_refutes : (is_some conflict || is_some empty) ≡ true → IsRefuted s
  some_refutes e = by_both conflict empty kept.stops kept.tells_empty e
    where
      by_both : (f g : Option ClauseId) → Stops s.clauses labels done f → TellsEmpty s.clauses g → (is_some f || is_some g) ≡ true → IsRefuted s
      by_both None None p q h = absurd (cc h)
      by_both (Some id) g p q h = refuted_by s.clauses (is_marked s.assumed) id.0 p.clause p.present (λ m in_clause. marked_derived (neg m) (p.all_false m in_clause))
      by_both None (Some id) p q h = empty_clause id.0 q

  module _ (calm : (is_some conflict || is_some empty) ≡ false) where
    whole : done ≡ length labels.trail
    whole = by_conflict conflict kept.stops (or_parts (is_some conflict) (is_some empty) calm).0
      where
        by_conflict : (f : Option ClauseId) → Stops s.clauses labels done f → is_some f ≡ false → done ≡ length labels.trail
        by_conflict None p h = p
        by_conflict (Some id) p h = absurd (cc h)

    none_empty : NoneEmpty s.clauses
    none_empty = by_empty empty kept.tells_empty (or_parts (is_some conflict) (is_some empty) calm).1
      where
        by_empty : (g : Option ClauseId) → TellsEmpty s.clauses g → is_some g ≡ false → NoneEmpty s.clauses
        by_empty None q h = q
        by_empty (Some id) q h = absurd (cc h)

    looked_truth : (l : Lit) → true_before done labels.trail l ≡ is_marked labels.marks l
    looked_truth l =
        ap (λ (n : ℕ). true_before n labels.trail l) whole ∙ ap (λ (t : List Link). trail_has t l) (take-length labels.trail) ∙ sym (kept.network.are_labels.agrees.same l)

    -- what is marked is closed
    closed : IsClosed s.clauses (is_marked s.assumed) (is_marked labels.marks)
    closed =
        record {
          assumptions = kept.assumptions.marked;
          units = λ id c l at in_clause others. unit_marked id c l at in_clause others;
        }
      where
        unit_marked : (id : ℕ) (c : List Lit) (l : Lit) → clause_at s.clauses id ≡ Some c → Contains c l → ((m : Lit) → Contains c m → m ≢ l → is_marked labels.marks (neg m) ≡ true) → is_marked labels.marks l ≡ true
        unit_marked id c l at in_clause others = by_near (lit_cases (lit_at near id) l) (lit_cases (lit_at far id) l)
          where
            near_is : IsGuarded c (lit_at near id) (lit_at far id) (true_before done labels.trail) labels.marks []
            near_is = kept.looked.watching.near_side.guarded id c l at in_clause

            far_is : IsGuarded c (lit_at far id) (lit_at near id) (true_before done labels.trail) labels.marks []
            far_is = kept.looked.watching.far_side.guarded id c l at in_clause

            holds_far : is_marked labels.marks (neg (lit_at near id)) ≡ true → is_marked labels.marks (lit_at far id) ≡ true
            holds_far e = near_is.held (looked_truth (neg (lit_at near id)) ∙ e) refl

            holds_near : is_marked labels.marks (neg (lit_at far id)) ≡ true → is_marked labels.marks (lit_at near id) ≡ true
            holds_near e = far_is.held (looked_truth (neg (lit_at far id)) ∙ e) refl

            by_near : (lit_at near id ≡ l) ⊎ (lit_at near id ≢ l) → (lit_at far id ≡ l) ⊎ (lit_at far id ≢ l) → is_marked labels.marks l ≡ true
            by_near (inr p) (inl q) = ap (is_marked labels.marks) (sym q) ∙ holds_far (others (lit_at near id) near_is.member p)
            by_near (inr p) (inr q) =
                absurd (cc (has_not_neg labels.marks (lit_at far id) (holds_far (others (lit_at near id) near_is.member p)), others (lit_at far id) far_is.member q))
            by_near (inl p) (inr q) = ap (is_marked labels.marks) (sym p) ∙ holds_near (others (lit_at far id) far_is.member q)
            by_near (inl p) (inl q) =
                elim (not_free_cases labels.marks l (ap (is_free labels.marks) (sym p) ∙ kept.looked.watching.settled.settled id c l at in_clause (p ∙ sym q) refl)) [
                  | inl here ↦ here
                  | inr turned ↦
                      let far_true : is_marked labels.marks (lit_at far id) ≡ true = holds_far (ap (λ (k : Lit). is_marked labels.marks (neg k)) p ∙ turned) in
                      ap (is_marked labels.marks) (sym q) ∙ far_true
                ]

    pub consistent : IsRefuted s → ⊥
    consistent (both_signs l p q) = cc (has_not_neg labels.marks l (least (is_marked labels.marks) closed l p), least (is_marked labels.marks) closed (neg l) q)
    consistent (empty_clause id at) = none_empty.never id at

    pub derived_calm : (l : Lit) → IsDerived s l → is_marked labels.marks l ≡ true
    derived_calm l h = least (is_marked labels.marks) closed l h

  -- what is derived is marked where there is no contradiction
  pub derived_marked : ¬ IsRefuted s → (l : Lit) → IsDerived s l → is_marked labels.marks l ≡ true
  derived_marked fine l h = by_some (is_some conflict || is_some empty) refl
    where
      by_some : (b : Bool) → (is_some conflict || is_some empty) ≡ b → is_marked labels.marks l ≡ true
      by_some true e = absurd (fine (some_refutes e))
      by_some false e = derived_calm e l h

  pub unmarked_not_derived : ¬ IsRefuted s → (l : Lit) → is_marked labels.marks l ≡ false → IsDerived s l → ⊥
  unmarked_not_derived fine l e h = cc (derived_marked fine l h, e)

  pub whole_trail : ¬ IsRefuted s → IsWholeTrail s
  whole_trail fine =
      record {
        derivation = subst (IsDerivation s.clauses (is_marked s.assumed)) (sym kept.trail) kept.derivation;
        complete = λ l h. ap (λ t. trail_has t l) kept.trail ∙ sym (kept.network.are_labels.agrees.same l) ∙ derived_marked fine l h;
      }

-- the reason kept is that on the trail
module _ (marks : Marks) (supports : List Reason) (trail : List Link) (agrees : Agrees marks supports trail) (l : Lit) where
  reason_known : is_free marks l ≡ false → reason_in trail l ≡ Some (support_at supports l)
  reason_known marked = by_found (find (λ (k : Link). same_var k.lit l) trail) refl
    where
      on_trail : (m : Lit) → nat_eq m.var.0 l.var.0 ≡ true → is_marked marks m ≡ true → find (λ (k : Link). same_var k.lit l) trail ≡ None → ⊥
      on_trail m e h none =
          let found = any_member (λ (k : Link). same_lit k.lit m) trail (sym (agrees.same m) ∙ h) in
          none_passes (λ (k : Link). same_var k.lit l) trail found.0 none found.1 (ap (λ (j : Lit). same_var j l) (same_lit-equal found.0.lit m found.2) ∙ e)

      eq_self : (a : ℕ) → nat_eq a a ≡ true
      eq_self a = grind (arith, nat_tests)

      by_found : (o : Option Link) → find (λ (k : Link). same_var k.lit l) trail ≡ o → reason_in trail l ≡ Some (support_at supports l)
      by_found None e = elim (not_free_cases marks l marked) [
        | inl here ↦ absurd (on_trail l (eq_self l.var.0) here e)
        | inr turned ↦ absurd (on_trail (neg l) (eq_self l.var.0) turned e)
      ]
      by_found (Some k) e =
          let passes = found_passes (λ (j : Link). same_var j.lit l) trail k e in
          ap (option_map (λ (j : Link). j.reason)) e
          ∙ ap Some (sym (agrees.backed k passes.1) ∙ ap (λ v. get_or supports v Assumed) (eq_from k.lit.var.0 l.var.0 passes.0))

  reason_unknown : is_free marks l ≡ true → reason_in trail l ≡ None
  reason_unknown free = by_found (find (λ (k : Link). same_var k.lit l) trail) refl
    where
      by_found : (o : Option Link) → find (λ (k : Link). same_var k.lit l) trail ≡ o → reason_in trail l ≡ None
      by_found None e = ap (option_map (λ (j : Link). j.reason)) e
      by_found (Some k) e =
          let passes = found_passes (λ (j : Link). same_var j.lit l) trail k e in
          let there : is_marked marks k.lit ≡ true = agrees.same k.lit ∙ contained_has trail k passes.1 in
          let busy : is_free marks l ≡ false = ap (λ v. is_none (get_or marks v None)) (sym (eq_from k.lit.var.0 l.var.0 passes.0)) ∙ has_not_free marks k.lit there in
          absurd (cc (free, busy))

  pub reason_kept : support_if_marked marks supports l ≡ reason_in trail l
  reason_kept = by_free (is_free marks l) refl
    where
      by_free : (b : Bool) → is_free marks l ≡ b → support_if_marked marks supports l ≡ reason_in trail l
      by_free true e = ap (λ (b : Bool). cond b None (Some (support_at supports l))) e ∙ sym (reason_unknown e)
      by_free false e = ap (λ (b : Bool). cond b None (Some (support_at supports l))) e ∙ sym (reason_known e)

-- the reason of a link is that of its literal
pub reason_of : (marks : Marks) (supports : List Reason) (trail : List Link) → Agrees marks supports trail → (k : Link) → Contains trail k → reason_in trail k.lit ≡ Some k.reason
reason_of marks supports trail agrees k h =
    reason_known marks supports trail agrees k.lit (has_not_free marks k.lit (agrees.same k.lit ∙ contained_has trail k h)) ∙ ap Some (agrees.backed k h)
