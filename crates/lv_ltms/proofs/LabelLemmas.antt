-- What one link more makes of labels, and what labels that grow keep.
use Rattle.std.proofs.Common.{◌≡◌, ◌≢◌, ◌⊎◌, ℕ, ◌+◌, ◌<◌, ◌≤◌, suc, zero, Bool, true, false, not, ◌||◌, List, [], ◌∷◌, ◌++◌, length, take, drop, get_or, Option, Some, None, is_none, refl, sym, ap, ap₂, ◌∙◌, arith, inl, inr, Contains}
use Rattle.std.proofs.lemmas.Bool.{cases_lt}
use Rattle.std.proofs.lemmas.List.{length-append, length-set, get_or-set_same, get_or-set_other, take-append-le, take-append-drop, append_assoc}
use Rattle.std.proofs.lemmas.List.Elements.{Contains-append_cases}
use Rattle.std.proofs.lemmas.List.Folds.{list_any-append, list_any_more, list_any_at}
use Rattle.std.proofs.Math.Seq.{drop-append_seam}
use Rattle.lv_base.specs.declared.ids.Lit.{Lit}
use Rattle.lv_clauses.specs.Literals.{neg, same_truth, same_var}
use Rattle.lv_clauses.specs.Marks.{Marks, is_marked, mark_is, is_free}
use Rattle.lv_clauses.proofs.LiteralLemmas.{Contains-nil, Contains-cases, and_left, and_right, and_both, any_member, member_any, same_or_neg}
use Rattle.lv_clauses.proofs.MarkLemmas.{is_marked-marked_free, same_truth-self}
use Rattle.lv_ltms.specs.declared.labels.Link.{Link}
use Rattle.lv_ltms.specs.declared.labels.Reason.TheVariants.{Assumed}
use Rattle.lv_ltms.specs.Trail.{same_lit, trail_has}
use Rattle.lv_ltms.specs.Labelled.{Labelled, Agrees, Grows, with_link, has_boolean, is_once, support_at}
use Rattle.lv_ltms.specs.Standing.{true_before}
use Rattle.lv_ltms.proofs.TrailLemmas.{trail_has-push, free_count-push}
use Rattle.lv_ltms.proofs.CountLemmas.{HasMore, same_lit-self}
use Rattle.lv_ltms.proofs.BoolLemmas.{eq_from, eq_is, eq_swap, from_not, not_true, or_parts}

-- a mark is a mark of one sign
marked_cases : (o : Option Bool) (s : Bool) → mark_is o s ≡ true → (mark_is o (not s) ≡ false) × (is_none o ≡ false)
marked_cases None s e = absurd (cc)
marked_cases (Some true) true e = (refl, refl)
marked_cases (Some true) false e = absurd (cc)
marked_cases (Some false) true e = absurd (cc)
marked_cases (Some false) false e = (refl, refl)

not_marked : (o : Option Bool) (s : Bool) → is_none o ≡ true → mark_is o s ≡ false
not_marked None s e = refl
not_marked (Some b) s e = absurd (cc)

pub has_not_neg : (marks : Marks) (l : Lit) → is_marked marks l ≡ true → is_marked marks (neg l) ≡ false
has_not_neg marks l e = (marked_cases _ l.sign e).0

pub has_not_free : (marks : Marks) (l : Lit) → is_marked marks l ≡ true → is_free marks l ≡ false
has_not_free marks l e = (marked_cases _ l.sign e).1

pub neg_not_free : (marks : Marks) (l : Lit) → is_marked marks (neg l) ≡ true → is_free marks l ≡ false
neg_not_free marks l e = (marked_cases _ (not l.sign) e).1

pub free_not_has : (marks : Marks) (l : Lit) → is_free marks l ≡ true → is_marked marks l ≡ false
free_not_has marks l e = not_marked _ l.sign e

-- a boolean that is marked has one of its literals marked
pub not_free_cases : (marks : Marks) (l : Lit) → is_free marks l ≡ false → (is_marked marks l ≡ true) ⊎ (is_marked marks (neg l) ≡ true)
not_free_cases marks l e = by_mark (get_or marks l.var.0 None) l.sign e
  where
    by_mark : (o : Option Bool) (s : Bool) → is_none o ≡ false → (mark_is o s ≡ true) ⊎ (mark_is o (not s) ≡ true)
    by_mark None s f = absurd (cc)
    by_mark (Some true) true f = inl refl
    by_mark (Some true) false f = inr refl
    by_mark (Some false) true f = inr refl
    by_mark (Some false) false f = inl refl

past_none : (marks : Marks) (v : ℕ) → length marks ≤ v → get_or marks v None ≡ None
past_none [] v e = refl
past_none (m ∷ ms) zero e = absurd (omega (arith, e))
past_none (m ∷ ms) (suc v) e = past_none ms v (omega (arith, e))

pub has_within : (marks : Marks) (l : Lit) → is_marked marks l ≡ true → l.var.0 < length marks
has_within marks l e = elim (cases_lt l.var.0 (length marks)) [
  | inl within ↦ within
  | inr past ↦ absurd (cc (ap (λ (o : Option Bool). mark_is o l.sign) (past_none marks l.var.0 past), e))
]

-- a literal on the trail has its boolean there, and a boolean there has one of its literals there
pub trail_boolean : (trail : List Link) (l : Lit) → trail_has trail l ≡ true → has_boolean trail l ≡ true
trail_boolean trail l e =
    let found = any_member (λ (k : Link). same_lit k.lit l) trail e in
    member_any (λ (k : Link). same_var k.lit l) trail found.0 found.1 (and_left (same_var found.0.lit l) (same_truth found.0.lit.sign l.sign) found.2)

pub boolean_cases : (trail : List Link) (l : Lit) → has_boolean trail l ≡ true → (trail_has trail l ≡ true) ⊎ (trail_has trail (neg l) ≡ true)
boolean_cases trail l e =
    let found = any_member (λ (k : Link). same_var k.lit l) trail e in
    elim (same_or_neg found.0.lit l (eq_from found.0.lit.var.0 l.var.0 found.2)) [
      | inl same ↦ inl (member_any (λ (k : Link). same_lit k.lit l) trail found.0 found.1 (ap (λ k. same_lit k l) same ∙ same_lit-self l))
      | inr other ↦ inr (member_any (λ (k : Link). same_lit k.lit (neg l)) trail found.0 found.1 (ap (λ k. same_lit k (neg l)) other ∙ same_lit-self (neg l)))
    ]

pub contained_has : (trail : List Link) (k : Link) → Contains trail k → trail_has trail k.lit ≡ true
contained_has trail k h = member_any (λ (j : Link). same_lit j.lit k.lit) trail k h (same_lit-self k.lit)

once_push : (trail : List Link) (link : Link) → is_once trail ≡ true → has_boolean trail link.lit ≡ false → is_once (trail ++ link ∷ []) ≡ true
once_push [] link once fresh = refl
once_push (k ∷ ks) link once fresh =
    let here : has_boolean ks k.lit ≡ false = from_not (has_boolean ks k.lit) (and_left (not (has_boolean ks k.lit)) (is_once ks) once) in
    let other : same_var link.lit k.lit ≡ false = eq_swap link.lit.var.0 k.lit.var.0 ∙ (or_parts (same_var k.lit link.lit) (has_boolean ks link.lit) fresh).0 in
    let none : has_boolean (ks ++ link ∷ []) k.lit ≡ false = list_any-append (λ (j : Link). same_var j.lit k.lit) ks (link ∷ []) ∙ ap₂ (λ a b. a || (b || false)) here other in
    and_both (not (has_boolean (ks ++ link ∷ []) k.lit)) (is_once (ks ++ link ∷ [])) (ap not none)
    (once_push ks link (and_right (not (has_boolean ks k.lit)) (is_once ks) once) ((or_parts (same_var k.lit link.lit) (has_boolean ks link.lit) fresh).1))

module _ (labels : Labelled) (link : Link) (within : link.lit.var.0 < length labels.marks) (inside : link.lit.var.0 < length labels.supports)
    (p : is_marked labels.marks link.lit ≡ false) (q : is_marked labels.marks (neg link.lit) ≡ false) (agrees : Agrees labels.marks labels.supports labels.trail) where
  boolean_fresh : has_boolean labels.trail link.lit ≡ false
  boolean_fresh =
      not_true (has_boolean labels.trail link.lit)
      (λ e.
      elim (boolean_cases labels.trail link.lit e) [
        | inl here ↦ absurd (cc (agrees.same link.lit, here, p))
        | inr here ↦ absurd (cc (agrees.same (neg link.lit), here, q))
      ])

  backed_old : (k : Link) → Contains labels.trail k → support_at (with_link labels link).supports k.lit ≡ k.reason
  backed_old k h =
      let differs : k.lit.var.0 ≢ link.lit.var.0 =
      λ e.
      let there : has_boolean labels.trail link.lit ≡ true = member_any (λ (j : Link). same_var j.lit link.lit) labels.trail k h (eq_is k.lit.var.0 link.lit.var.0 e) in
      cc (there, boolean_fresh) in
      get_or-set_other labels.supports link.lit.var.0 k.lit.var.0 link.reason Assumed differs ∙ agrees.backed k h

  pub Agrees-push : Agrees (with_link labels link).marks (with_link labels link).supports (with_link labels link).trail
  Agrees-push =
      record {
        same =
            λ l.
            is_marked-marked_free labels.marks link.lit l within p q
            ∙ ap (λ b. b || same_lit link.lit l) (agrees.same l)
            ∙ sym (trail_has-push labels.trail link l);
        once = once_push labels.trail link agrees.once boolean_fresh;
        room = omega (arith, agrees.room, free_count-push labels link within p q, length-append labels.trail (link ∷ []), length-set labels.marks link.lit.var.0 (Some link.lit.sign));
        backed =
            λ k h.
            elim (Contains-append_cases labels.trail (link ∷ []) k h) [
              | inl old ↦ backed_old k old
              | inr new ↦ elim (Contains-cases link k [] new) [
                | inl same ↦
                    ap (λ (j : Link). support_at (with_link labels link).supports j.lit) (sym same)
                    ∙ get_or-set_same labels.supports link.lit.var.0 link.reason Assumed inside
                    ∙ ap (λ (j : Link). j.reason) same
                | inr nothing ↦ absurd (Contains-nil k nothing)
              ]
            ];
      }

  -- there is room on the trail for a boolean that is unmarked
  pub room_left : length labels.trail < length labels.marks
  room_left = omega (arith, agrees.room, free_count-push labels link within p q)

  pub Grows-push : Grows labels (with_link labels link)
  Grows-push =
      record {
        agrees = Agrees-push;
        kept = λ l e. is_marked-marked_free labels.marks link.lit l within p q ∙ ap (λ b. b || same_lit link.lit l) e;
        front = ap (λ (more : List Link). labels.trail ++ more) (sym (drop-append_seam labels.trail (link ∷ [])));
        marks = length-set labels.marks link.lit.var.0 (Some link.lit.sign);
        supports = length-set labels.supports link.lit.var.0 link.reason;
      }

  -- the boolean is marked now
  pub pushed_marked : is_free (with_link labels link).marks link.lit ≡ false
  pushed_marked = ap is_none (get_or-set_same labels.marks link.lit.var.0 (Some link.lit.sign) None within)

  pub pushed_has : is_marked (with_link labels link).marks link.lit ≡ true
  pushed_has = ap (λ (o : Option Bool). mark_is o link.lit.sign) (get_or-set_same labels.marks link.lit.var.0 (Some link.lit.sign) None within) ∙ same_truth-self link.lit.sign

pub Grows-self : (labels : Labelled) → Agrees labels.marks labels.supports labels.trail → Grows labels labels
Grows-self labels agrees =
    record {
      agrees = agrees;
      kept = λ l e. e;
      front = front_self labels.trail;
      marks = refl;
      supports = refl;
    }
  where
    front_self : (xs : List Link) → xs ≡ xs ++ drop (length xs) xs
    front_self [] = refl
    front_self (x ∷ xs) = ap (λ (ys : List Link). x ∷ ys) (front_self xs)

front_from : (old more new : List Link) → new ≡ old ++ more → new ≡ old ++ drop (length old) new
front_from old more new e = e ∙ ap (λ (xs : List Link). old ++ xs) (sym (ap (λ (xs : List Link). drop (length old) xs) e ∙ drop-append_seam old more))

pub Grows-then : (old mid new : Labelled) → Grows old mid → Grows mid new → Grows old new
Grows-then old mid new a b =
    record {
      agrees = b.agrees;
      kept = λ l e. b.kept l (a.kept l e);
      front =
          front_from old.trail (drop (length old.trail) mid.trail ++ drop (length mid.trail) new.trail) new.trail
          (b.front ∙ ap (λ (xs : List Link). xs ++ drop (length mid.trail) new.trail) a.front ∙ append_assoc old.trail (drop (length old.trail) mid.trail) (drop (length mid.trail) new.trail));
      marks = b.marks ∙ a.marks;
      supports = b.supports ∙ a.supports;
    }

pub Grows-len : (old new : Labelled) → Grows old new → length old.trail ≤ length new.trail
Grows-len old new g = omega (arith, ap (λ (xs : List Link). length xs) g.front, length-append old.trail (drop (length old.trail) new.trail))

-- what stood first on the trail still does
pub before_kept : (old new : Labelled) (at : ℕ) → Grows old new → at ≤ length old.trail → (l : Lit) → true_before at new.trail l ≡ true_before at old.trail l
before_kept old new at g within l = ap (λ (xs : List Link). trail_has xs l) (ap (λ (xs : List Link). take at xs) g.front ∙ take-append-le at old.trail (drop (length old.trail) new.trail) within)

-- what stands first on the trail stands on it
pub before_has : (at : ℕ) (trail : List Link) (l : Lit) → true_before at trail l ≡ true → trail_has trail l ≡ true
before_has at trail l e =
    ap (λ (xs : List Link). trail_has xs l) (sym (take-append-drop at trail))
    ∙ list_any-append (λ (k : Link). same_lit k.lit l) (take at trail) (drop at trail)
    ∙ ap (λ b. b || trail_has (drop at trail) l) e

-- a boolean doesn't stand before its own place
once_before : (trail : List Link) (at : ℕ) (d : Link) → is_once trail ≡ true → at < length trail → has_boolean (take at trail) (get_or trail at d).lit ≡ false
once_before [] at d once within = absurd (omega (arith, within))
once_before (k ∷ ks) zero d once within = refl
once_before (k ∷ ks) (suc at) d once within =
    let inner : at < length ks = omega (arith, within) in
    let here : has_boolean ks k.lit ≡ false = from_not (has_boolean ks k.lit) (and_left (not (has_boolean ks k.lit)) (is_once ks) once) in
    let other : same_var (get_or ks at d).lit k.lit ≡ false =
    not_true (same_var (get_or ks at d).lit k.lit) (λ e. cc (list_any_at (λ (j : Link). same_var j.lit k.lit) ks at d inner e, here)) in
    ap₂ (λ a b. a || b) (eq_swap k.lit.var.0 (get_or ks at d).lit.var.0 ∙ other)
    (once_before ks at d (and_right (not (has_boolean ks k.lit)) (is_once ks) once) inner)

-- one place further along the trail one literal more is true
pub before_more : (trail : List Link) (at : ℕ) (link d : Link) → is_once trail ≡ true → at < length trail → get_or trail at d ≡ link → HasMore (true_before at trail) (true_before (at + 1) trail) link.lit
before_more trail at link d once within is =
    record {
      grown = λ l. list_any_more (λ (k : Link). same_lit k.lit l) trail at d within ∙ ap (λ (k : Link). true_before at trail l || same_lit k.lit l) is;
      fresh =
          not_true (true_before at trail link.lit)
          (λ e.
          let there : has_boolean (take at trail) link.lit ≡ true = trail_boolean (take at trail) link.lit e in
          let not_there : has_boolean (take at trail) link.lit ≡ false = ap (λ (k : Link). has_boolean (take at trail) k.lit) (sym is) ∙ once_before trail at d once within in
          cc (there, not_there));
    }
