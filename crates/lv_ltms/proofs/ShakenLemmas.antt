-- What has to hold before labels are taken away, where an assumption went, one came against a label, or a clause went.
use Rattle.std.proofs.Common.{◌≡◌, ◌≢◌, ◌⊎◌, ℕ, ◌+◌, ◌<◌, ◌≤◌, Bool, true, false, not, ◌&&◌, nat_eq, nat_lt, List, [], ◌∷◌, ◌++◌, length, take, get_or, set, position, unwrap_or, Option, Some, None, cond, refl, sym, ap, subst, ◌∙◌, arith, inl, inr, Contains}
use Rattle.std.specs.List.{position_or_len}
use Rattle.std.proofs.lemmas.Bool.{cases_eq, cases_lt}
use Rattle.std.proofs.lemmas.Bool.Decides.{nat_tests}
use Rattle.std.proofs.lemmas.List.{length-append, get_or-set_same, get_or-set_other, set_past, take-append-le, take_all, length-take-le, get_or-take}
use Rattle.std.proofs.lemmas.List.Elements.{Contains-append_left, Contains-append_right}
use Rattle.std.proofs.lemmas.List.Sums.{prefix_len-le-length, prefix_len_passes}
use Rattle.std.proofs.Math.Seq.{get_or-append_seam, take-append_seam}
use Rattle.std.proofs.Math.ListN.{get_or-append}
use Rattle.lv_base.specs.declared.ids.Lit.{Lit}
use Rattle.lv_base.specs.declared.ids.ClauseId.{ClauseId}
use Rattle.lv_clauses.specs.Literals.{neg, same_truth, same_var}
use Rattle.lv_clauses.specs.ClauseMap.{Slots, clause_at}
use Rattle.lv_clauses.specs.Marks.{Marks, is_marked, marked, mark_is, is_free}
use Rattle.lv_clauses.proofs.LiteralLemmas.{any_member}
use Rattle.lv_clauses.proofs.MarkLemmas.{is_marked-marked_free, is_marked-marked_cases, same_truth-self}
use Rattle.lv_ltms.specs.declared.labels.Link.{Link}
use Rattle.lv_ltms.specs.declared.labels.Reason.{Reason}
use Rattle.lv_ltms.specs.declared.labels.Reason.TheVariants.{Assumed, Clause}
use Rattle.lv_ltms.specs.Trail.{trail_has, IsDerivation, IsReason, start, next}
use Rattle.lv_ltms.specs.Watching.{Rows}
use Rattle.lv_ltms.specs.System.{System, IsKept}
use Rattle.lv_ltms.specs.Labelled.{Labelled, gives, is_reason}
use Rattle.lv_ltms.specs.Standing.{true_before}
use Rattle.lv_ltms.specs.Revising.{IsBacked, IsShaken}
use Rattle.lv_ltms.proofs.LabelLemmas.{has_not_neg, before_has, trail_boolean, free_not_has}
use Rattle.lv_ltms.proofs.BoolLemmas.{eq_is, not_true, or_left}

-- a derivation goes over to other clauses and assumptions where each reason does
pub derivation_to : (clauses after : Slots) (assumed now : Lit → Bool) → {trail : List Link} → IsDerivation clauses assumed trail
    → ((before : List Link) (k : Link) → Contains trail k → IsReason clauses assumed before k.lit k.reason → IsReason after now before k.lit k.reason) → IsDerivation after now trail
derivation_to clauses after assumed now start good = start
derivation_to clauses after assumed now (next {trail} before link derived reason grown) good =
    next before link (derivation_to clauses after assumed now derived (λ b k h is. good b k (subst (λ (t : List Link). Contains t k) (sym grown) (Contains-append_left before (link ∷ []) k h)) is))
    (good before link (subst (λ (t : List Link). Contains t link) (sym grown) (Contains-append_right before (link ∷ []) link (0, omega arith, refl))) reason) grown

-- a front of a derivation is one
pub derivation_front : {clauses : Slots} {assumed : Lit → Bool} {trail : List Link} (n : ℕ) → IsDerivation clauses assumed trail → IsDerivation clauses assumed (take n trail)
derivation_front {clauses} {assumed} n start = subst (IsDerivation clauses assumed) (sym (take_all n [] (omega arith))) start
derivation_front {clauses} {assumed} {trail} n (next before link derived reason grown) = by_place (cases_lt (length before) n) (derivation_front n derived)
  where
    by_place : (length before < n) ⊎ (n ≤ length before) → IsDerivation clauses assumed (take n before) → IsDerivation clauses assumed (take n trail)
    by_place (inl past) front =
        let all : take n trail ≡ trail = take_all n trail (omega (arith, past, ap (λ (t : List Link). length t) grown, length-append before (link ∷ []))) in
        next before link derived reason (all ∙ grown)
    by_place (inr within) front = subst (IsDerivation clauses assumed) (sym (ap (λ (t : List Link). take n t) grown ∙ take-append-le n before (link ∷ []) within)) front

-- the reasons of a derivation are good at their places
pub derivation_backed : {clauses : Slots} {assumed : Lit → Bool} {trail : List Link} (after : Slots) → ((id : ℕ) (c : List Lit) → clause_at after id ≡ Some c → clause_at clauses id ≡ Some c) → IsDerivation clauses assumed trail → IsBacked after trail
derivation_backed after there start = record { member = λ at d id c within r p. absurd (omega (arith, within)); others = λ at d id c m within r p h e. absurd (omega (arith, within)) }
derivation_backed {clauses} {assumed} {trail} after there (next before link derived reason grown) =
    let inner : IsBacked after before = derivation_backed after there derived in
    record {
      member = λ at d id c within r p. member inner at d id c within r p (cases_lt at (length before));
      others = λ at d id c m within r p h e. others inner at d id c m within r p h e (cases_lt at (length before));
    }
  where
    size : length trail ≡ length before + 1
    size = ap (λ (t : List Link). length t) grown ∙ length-append before (link ∷ [])

    at_old : (at : ℕ) (d : Link) → at < length before → get_or trail at d ≡ get_or before at d
    at_old at d within = ap (λ (t : List Link). get_or t at d) grown ∙ get_or-append before (link ∷ []) d at within

    at_new : (at : ℕ) (d : Link) → at < length trail → length before ≤ at → get_or trail at d ≡ link
    at_new at d within past =
        let here : at ≡ length before = omega (arith, within, past, size) in
        ap (λ (t : List Link). get_or t at d) grown ∙ ap (λ n. get_or (before ++ link ∷ []) n d) here ∙ get_or-append_seam before link [] d

    front_old : (at : ℕ) → at < length before → take at trail ≡ take at before
    front_old at within = ap (λ (t : List Link). take at t) grown ∙ take-append-le at before (link ∷ []) (omega (arith, within))

    front_new : (at : ℕ) → at < length trail → length before ≤ at → take at trail ≡ before
    front_new at within past =
        let here : at ≡ length before = omega (arith, within, past, size) in
        ap (λ (t : List Link). take at t) grown ∙ ap (λ n. take n (before ++ link ∷ [])) here ∙ take-append_seam before (link ∷ [])

    by_reason : (id : ClauseId) (c : List Lit) (r : Reason) → IsReason clauses assumed before link.lit r → r ≡ Clause id → clause_at after id.0 ≡ Some c
        → Contains c link.lit × ((m : Lit) → Contains c m → m ≢ link.lit → trail_has before (neg m) ≡ true)
    by_reason id c Assumed is e p = absurd (cc)
    by_reason id c (Clause other) is e p =
        let same : other ≡ id = cc in
        let now : Some is.clause ≡ Some c = sym is.present ∙ ap (λ (i : ClauseId). clause_at clauses i.0) same ∙ there id.0 c p in
        let it : is.clause ≡ c = cc in
        (subst (λ (x : List Lit). Contains x link.lit) it is.member, λ m h differs. is.others m (subst (λ (x : List Lit). Contains x m) (sym it) h) differs)

    member : IsBacked after before → (at : ℕ) (d : Link) (id : ClauseId) (c : List Lit) → at < length trail → (get_or trail at d).reason ≡ Clause id → clause_at after id.0 ≡ Some c → (at < length before) ⊎ (length before ≤ at) → Contains c (get_or trail at d).lit
    member inner at d id c within r p (inl early) =
        subst (λ (k : Link). Contains c k.lit) (sym (at_old at d early)) (inner.member at d id c early (ap (λ (k : Link). k.reason) (sym (at_old at d early)) ∙ r) p)
    member inner at d id c within r p (inr past) =
        let is : get_or trail at d ≡ link = at_new at d within past in
        subst (λ (k : Link). Contains c k.lit) (sym is) (by_reason id c link.reason reason (ap (λ (k : Link). k.reason) (sym is) ∙ r) p).0

    others : IsBacked after before → (at : ℕ) (d : Link) (id : ClauseId) (c : List Lit) (m : Lit) → at < length trail → (get_or trail at d).reason ≡ Clause id → clause_at after id.0 ≡ Some c → Contains c m
        → m ≢ (get_or trail at d).lit → (at < length before) ⊎ (length before ≤ at) → true_before at trail (neg m) ≡ true
    others inner at d id c m within r p h e (inl early) =
        ap (λ (t : List Link). trail_has t (neg m)) (front_old at early)
        ∙ inner.others at d id c m early (ap (λ (k : Link). k.reason) (sym (at_old at d early)) ∙ r) p h (λ f. e (f ∙ ap (λ (k : Link). k.lit) (sym (at_old at d early))))
    others inner at d id c m within r p h e (inr past) =
        let is : get_or trail at d ≡ link = at_new at d within past in
        ap (λ (t : List Link). trail_has t (neg m)) (front_new at within past)
        ∙ (by_reason id c link.reason reason (ap (λ (k : Link). k.reason) (sym is) ∙ r) p).1 m h (λ f. e (f ∙ ap (λ (k : Link). k.lit) (sym is)))

-- the first place at which a test passes, or the end: before it the test passes nowhere
module _ {X : Type 0} (p : X → Bool) (xs : List X) where
  place_is : unwrap_or (position p xs) (length xs) ≡ position_or_len p xs
  place_is = by_value (nat_lt (position_or_len p xs) (length xs)) refl
    where
      past : nat_lt (position_or_len p xs) (length xs) ≡ false → length xs ≡ position_or_len p xs
      past e = omega (arith, prefix_len-le-length (λ x. not (p x)) xs, not_below (position_or_len p xs) (length xs) e)
        where
          not_below : (a b : ℕ) → nat_lt a b ≡ false → b ≤ a
          not_below a b f = grind (arith, nat_tests)

      by_value : (b : Bool) → nat_lt (position_or_len p xs) (length xs) ≡ b → unwrap_or (position p xs) (length xs) ≡ position_or_len p xs
      by_value true e = ap (λ (b : Bool). unwrap_or (cond b (Some (position_or_len p xs)) None) (length xs)) e
      by_value false e = ap (λ (b : Bool). unwrap_or (cond b (Some (position_or_len p xs)) None) (length xs)) e ∙ past e

  pub place_within : unwrap_or (position p xs) (length xs) ≤ length xs
  place_within = omega (arith, place_is, prefix_len-le-length (λ x. not (p x)) xs)

  pub before_fails : (k : X) → Contains (take (unwrap_or (position p xs) (length xs)) xs) k → p k ≡ false
  before_fails k h =
      let early : h.0 < position_or_len p xs = omega (arith, h.1, place_is, length-take-le (unwrap_or (position p xs) (length xs)) xs place_within) in
      let is : get_or xs h.0 k ≡ k = sym (get_or-take (unwrap_or (position p xs) (length xs)) xs h.0 k (omega (arith, early, place_is))) ∙ h.2 in
      sym (ap p is) ∙ from_not (p (get_or xs h.0 k)) (prefix_len_passes (λ x. not (p x)) xs h.0 k early)
    where
      from_not : (b : Bool) → not b ≡ true → b ≡ false
      from_not true e = absurd (cc)
      from_not false e = refl

-- an assumption taken back adds none
pub has_unset : (marks : Marks) (v : ℕ) (l : Lit) → is_marked (set marks v None) l ≡ true → is_marked marks l ≡ true
has_unset marks v l e = by_var (cases_eq l.var.0 v) (cases_lt v (length marks))
  where
    by_var : (l.var.0 ≡ v) ⊎ (l.var.0 ≢ v) → (v < length marks) ⊎ (length marks ≤ v) → is_marked marks l ≡ true
    by_var (inl same) (inl within) =
        let gone : get_or (set marks v None) l.var.0 None ≡ None = ap (λ n. get_or (set marks v None) n None) same ∙ get_or-set_same marks v None None within in
        absurd (cc (ap (λ (o : Option Bool). mark_is o l.sign) gone, e))
    by_var (inl same) (inr past) = ap (λ (m : Marks). is_marked m l) (sym (set_past marks v None past)) ∙ e
    by_var (inr differs) within = ap (λ (o : Option Bool). mark_is o l.sign) (sym (get_or-set_other marks v l.var.0 None None differs)) ∙ e

pub unset_other : (marks : Marks) (v : ℕ) (l : Lit) → (l.var.0 ≡ v → ⊥) → is_marked marks l ≡ true → is_marked (set marks v None) l ≡ true
unset_other marks v l differs e = ap (λ (o : Option Bool). mark_is o l.sign) (get_or-set_other marks v l.var.0 None None differs) ∙ e

apart_from : (a b : ℕ) → nat_eq a b ≡ false → a ≡ b → ⊥
apart_from a b e f = cc (eq_is a b f, e)

module _ {s : System} {near far : Rows} {labels : Labelled} {done : ℕ} {conflict empty : Option ClauseId} {space : ℕ} (kept : IsKept s near far labels done conflict empty space) where
  -- an assumption isn't false
  pub assumed_not_false : (n : ℕ) (l : Lit) → is_marked s.assumed l ≡ true → true_before n labels.trail (neg l) ≡ false
  assumed_not_false n l e =
      not_true (true_before n labels.trail (neg l))
      (λ f. cc (kept.network.are_labels.agrees.same (neg l), before_has n labels.trail (neg l) f, has_not_neg labels.marks l (kept.assumptions.marked l e)))

  -- the reasons go over to other assumptions
  pub derivation_assumed : (now : Lit → Bool) (trail : List Link) → IsDerivation s.clauses (is_marked s.assumed) trail → ((k : Link) → Contains trail k → is_marked s.assumed k.lit ≡ true → now k.lit ≡ true) → IsDerivation s.clauses now trail
  derivation_assumed now trail derived good = derivation_to s.clauses s.clauses (is_marked s.assumed) now derived (λ before k h is. by_reason before k h k.reason is)
    where
      by_reason : (before : List Link) (k : Link) → Contains trail k → (r : Reason) → IsReason s.clauses (is_marked s.assumed) before k.lit r → IsReason s.clauses now before k.lit r
      by_reason before k h Assumed is = good k h is
      by_reason before k h (Clause id) is = is

  pub shaken_retract : (lit : Lit) (now : Marks) → now ≡ set s.assumed lit.var.0 None → IsShaken (is_marked now) s.clauses labels.trail (unwrap_or (position (λ (k : Link). same_var k.lit lit) labels.trail) (length labels.trail))
  shaken_retract lit now is =
      subst (λ (m : Marks). IsShaken (is_marked m) s.clauses labels.trail (unwrap_or (position (λ (k : Link). same_var k.lit lit) labels.trail) (length labels.trail))) (sym is)
      (record {
        one_sided = record { one_side = λ l e. has_not_neg (set s.assumed lit.var.0 None) l e };
        backed = derivation_backed s.clauses (λ id c at. at) kept.derivation;
        derivation =
            derivation_assumed (is_marked (set s.assumed lit.var.0 None)) (take (unwrap_or (position (λ (k : Link). same_var k.lit lit) labels.trail) (length labels.trail)) labels.trail)
            (derivation_front (unwrap_or (position (λ (k : Link). same_var k.lit lit) labels.trail) (length labels.trail)) kept.derivation)
            (λ k h e. unset_other s.assumed lit.var.0 k.lit (apart_from k.lit.var.0 lit.var.0 (before_fails (λ (j : Link). same_var j.lit lit) labels.trail k h)) e);
        against = record { against = λ l e. assumed_not_false (unwrap_or (position (λ (k : Link). same_var k.lit lit) labels.trail) (length labels.trail)) l (has_unset s.assumed lit.var.0 l e) };
      })

  -- a literal that was free is assumed
  module _ (lit : Lit) (within : lit.var.0 < length s.assumed) (free : is_free s.assumed lit ≡ true) where
    pub assumed_more : (l : Lit) → is_marked s.assumed l ≡ true → is_marked (marked s.assumed lit) l ≡ true
    assumed_more l e =
        is_marked-marked_free s.assumed lit l within (free_not_has s.assumed lit free) (free_not_has s.assumed (neg lit) free) ∙ or_left (is_marked s.assumed l) (same_var lit l && same_truth lit.sign l.sign) e

    pub assumed_here : is_marked (marked s.assumed lit) lit ≡ true
    assumed_here = ap (λ (o : Option Bool). mark_is o lit.sign) (get_or-set_same s.assumed lit.var.0 (Some lit.sign) None within) ∙ same_truth-self lit.sign

    pub shaken_assume : (now : Marks) → now ≡ marked s.assumed lit → IsShaken (is_marked now) s.clauses labels.trail (unwrap_or (position (λ (k : Link). same_var k.lit lit) labels.trail) (length labels.trail))
    shaken_assume now is =
        subst (λ (m : Marks). IsShaken (is_marked m) s.clauses labels.trail (unwrap_or (position (λ (k : Link). same_var k.lit lit) labels.trail) (length labels.trail))) (sym is)
        (record {
          one_sided = record { one_side = λ l e. has_not_neg (marked s.assumed lit) l e };
          backed = derivation_backed s.clauses (λ id c at. at) kept.derivation;
          derivation =
              derivation_assumed (is_marked (marked s.assumed lit)) (take (unwrap_or (position (λ (k : Link). same_var k.lit lit) labels.trail) (length labels.trail)) labels.trail)
              (derivation_front (unwrap_or (position (λ (k : Link). same_var k.lit lit) labels.trail) (length labels.trail)) kept.derivation) (λ k h e. assumed_more k.lit e);
          against = record { against = λ l e. by_which l (is_marked-marked_cases s.assumed lit l e) };
        })
      where
        by_which : (l : Lit) → (l ≡ lit) ⊎ (is_marked s.assumed l ≡ true) → true_before (unwrap_or (position (λ (k : Link). same_var k.lit lit) labels.trail) (length labels.trail)) labels.trail (neg l) ≡ false
        by_which l (inr old) = assumed_not_false (unwrap_or (position (λ (k : Link). same_var k.lit lit) labels.trail) (length labels.trail)) l old
        by_which l (inl same) =
            not_true (true_before (unwrap_or (position (λ (k : Link). same_var k.lit lit) labels.trail) (length labels.trail)) labels.trail (neg l))
            (λ f.
            let front = take (unwrap_or (position (λ (k : Link). same_var k.lit lit) labels.trail) (length labels.trail)) labels.trail in
            let found = any_member (λ (k : Link). same_var k.lit (neg l)) front (trail_boolean front (neg l) f) in
            cc (before_fails (λ (j : Link). same_var j.lit lit) labels.trail found.0 found.1, same, found.2))

  pub shaken_drop : (id : ClauseId) (after : Slots) → clause_at after id.0 ≡ None → ((other : ℕ) → other ≢ id.0 → clause_at after other ≡ clause_at s.clauses other)
      → IsShaken (is_marked s.assumed) after labels.trail (unwrap_or (position (gives id) labels.trail) (length labels.trail))
  shaken_drop id after gone others =
      record {
        one_sided = record { one_side = λ l e. has_not_neg s.assumed l e };
        backed = derivation_backed after still kept.derivation;
        derivation =
            derivation_to s.clauses after (is_marked s.assumed) (is_marked s.assumed) (derivation_front (unwrap_or (position (gives id) labels.trail) (length labels.trail)) kept.derivation)
            (λ before k h is. by_reason before k k.reason (before_fails (gives id) labels.trail k h) is);
        against = record { against = λ l e. assumed_not_false (unwrap_or (position (gives id) labels.trail) (length labels.trail)) l e };
      }
    where
      still : (i : ℕ) (c : List Lit) → clause_at after i ≡ Some c → clause_at s.clauses i ≡ Some c
      still i c at = elim (cases_eq i id.0) [
        | inl same ↦ absurd (cc (sym at ∙ ap (clause_at after) same ∙ gone))
        | inr differs ↦ sym (others i differs) ∙ at
      ]

      by_reason : (before : List Link) (k : Link) (r : Reason) → is_reason id r ≡ false → IsReason s.clauses (is_marked s.assumed) before k.lit r → IsReason after (is_marked s.assumed) before k.lit r
      by_reason before k Assumed e is = is
      by_reason before k (Clause i) e is =
          record {
            clause = is.clause;
            present = others i.0 (apart_from i.0 id.0 e) ∙ is.present;
            member = is.member;
            others = is.others;
          }
