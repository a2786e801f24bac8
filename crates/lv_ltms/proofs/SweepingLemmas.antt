-- The loop of the sweep: what it keeps true from link to link.
use Rattle.std.proofs.Common.{◌≡◌, ◌⊎◌, ℕ, suc, zero, ◌+◌, ◌<◌, ◌≤◌, Bool, true, false, not, ◌&&◌, ◌||◌, nat_lt, List, min, [], ◌∷◌, ◌++◌, length, take, drop, get_or, set, None, refl, sym, ap, ap₂, subst, ◌∙◌, arith, inl, inr}
use Rattle.std.specs.List.{list_all}
use Rattle.std.proofs.lemmas.Grind.{drop_more_same}
use Rattle.std.proofs.lemmas.List.{take_all, length-append, length-set, take-append-drop, take_more_set, drop_more, drop_all, drop-set-lt, length-take-le, take-set-le, take-take, append_assoc, append-nil}
use Rattle.std.proofs.lemmas.List.Folds.{list_all-append, list_any-append, list_any_more}
use Rattle.lv_base.specs.declared.ids.Lit.{Lit}
use Rattle.lv_clauses.specs.Literals.{neg, in_range}
use Rattle.lv_clauses.specs.ClauseMap.{Slots}
use Rattle.lv_clauses.specs.Marks.{is_marked}
use Rattle.lv_clauses.proofs.LiteralLemmas.{and_left, and_right, and_both, neg_neg}
use Rattle.lv_ltms.specs.declared.labels.Link.{Link}
use Rattle.lv_ltms.specs.Trail.{same_lit, trail_has, IsDerivation, IsReason, next}
use Rattle.lv_ltms.specs.Labelled.{Labelled, Agrees, AreLabels, without_mark}
use Rattle.lv_ltms.specs.Watching.{has_lit}
use Rattle.lv_ltms.specs.Standing.{true_before}
use Rattle.lv_ltms.specs.Revising.{NoneAgainst, IsBacked, IsShaken, IsSwept, reason_stands}
use Rattle.lv_ltms.proofs.TrailLemmas.{trail_has-push, same_lit-equal, or_cases}
use Rattle.lv_ltms.proofs.SweepLemmas.{agrees_without, kept_without, stands_reason, link_within}
use Rattle.lv_ltms.proofs.BoolLemmas.{from_not, lt_is, not_true, or_left}

-- the trail as it stands at this place: what was kept, and what is still to come
abbrev pub standing_trail : List Link → ℕ → ℕ → List Link
standing_trail trail kept at = take kept trail ++ drop at trail

pub record IsSweeping (assumed : Lit → Bool) (bools : ℕ) (clauses : Slots) (old : Labelled) (done at kept looked : ℕ) (labels : Labelled) (fallen : List Lit) : Type 0 where
  pub len : length labels.trail ≡ length old.trail
  pub rest : drop at labels.trail ≡ drop at old.trail
  pub order : kept ≤ at
  pub place : at ≤ length old.trail
  pub fell : length fallen + kept ≤ at
  pub marks : length labels.marks ≡ bools
  pub supports : length labels.supports ≡ bools
  pub agrees : Agrees labels.marks labels.supports (standing_trail labels.trail kept at)
  pub derivation : IsDerivation clauses assumed (take kept labels.trail)
  pub against : NoneAgainst assumed (trail_has (take kept labels.trail))
  pub marked : (l : Lit) → is_marked old.marks l ≡ true → (is_marked labels.marks l || has_lit fallen l) ≡ true
  pub range : list_all (in_range bools) fallen ≡ true
  pub were : (f : Lit) → has_lit fallen f ≡ true → true_before at old.trail f ≡ true
  pub front_was : (l : Lit) → true_before kept labels.trail l ≡ true → true_before at old.trail l ≡ true
  pub looked_within : looked ≤ kept
  pub looked_was : (l : Lit) → true_before looked labels.trail l ≡ true → true_before done old.trail l ≡ true

-- what stands on a shorter front stands on a longer one
pub before_le : (trail : List Link) (a b : ℕ) (l : Lit) → a ≤ b → true_before a trail l ≡ true → true_before b trail l ≡ true
before_le [] a b l within e = absurd (none a e)
  where
    none : (n : ℕ) → trail_has (take n []) l ≡ true → ⊥
    none zero f = cc f
    none (suc n) f = cc f
before_le (k ∷ ks) zero b l within e = absurd (cc e)
before_le (k ∷ ks) (suc a) zero l within e = absurd (omega (arith, within))
before_le (k ∷ ks) (suc a) (suc b) l within e = by_value (same_lit k.lit l) refl (λ (f : true_before a ks l ≡ true). before_le ks a b l (omega (arith, within)) f)
  where
    by_value : (x : Bool) → same_lit k.lit l ≡ x → (true_before a ks l ≡ true → true_before b ks l ≡ true) → (same_lit k.lit l || true_before b ks l) ≡ true
    by_value true f later = ap (λ x. x || true_before b ks l) f
    by_value false f later = ap (λ x. x || true_before b ks l) f ∙ later (sym (ap (λ x. x || true_before a ks l) f) ∙ e)

module _ (assumed : Lit → Bool) (bools : ℕ) (old : Labelled) where
  pub sweeping_start : (clauses : Slots) (done from : ℕ) → AreLabels bools old → from ≤ length old.trail → IsShaken assumed clauses old.trail from
      → IsSweeping assumed bools clauses old done from from (min from done) old []
  sweeping_start clauses done from state within shaken =
      record {
        len = refl;
        rest = refl;
        order = omega arith;
        place = within;
        fell = omega arith;
        marks = state.marks;
        supports = state.supports;
        agrees = subst (λ (t : List Link). Agrees old.marks old.supports t) (sym (take-append-drop from old.trail)) state.agrees;
        derivation = shaken.derivation;
        against = shaken.against;
        marked = λ l e. or_left (is_marked old.marks l) false e;
        range = refl;
        were = λ f e. absurd (cc e);
        front_was = λ l e. e;
        looked_within = omega arith;
        looked_was = λ l e. before_le old.trail (min from done) done l (omega arith) e;
      }

  module _ (clauses : Slots) (done at kept looked : ℕ) (labels : Labelled) (fallen : List Lit) (link d : Link) (backed : IsBacked clauses old.trail)
      (once : Agrees old.marks old.supports old.trail) (within : at < length labels.trail) (is_link : get_or labels.trail at d ≡ link)
      (is : IsSweeping assumed bools clauses old done at kept looked labels fallen) where
    pub behind : drop at labels.trail ≡ link ∷ drop (at + 1) labels.trail
    behind = drop_more labels.trail at d within ∙ ap (λ (k : Link). k ∷ drop (at + 1) labels.trail) is_link

    pub here : standing_trail labels.trail kept at ≡ take kept labels.trail ++ link ∷ drop (at + 1) labels.trail
    here = ap (λ (t : List Link). take kept labels.trail ++ t) behind

    pub agrees_here : Agrees labels.marks labels.supports (take kept labels.trail ++ link ∷ drop (at + 1) labels.trail)
    agrees_here = subst (λ (t : List Link). Agrees labels.marks labels.supports t) here is.agrees

    pub old_within : at < length old.trail
    old_within = omega (arith, within, is.len)

    pub old_link : get_or old.trail at d ≡ link
    old_link = sym (ap (λ (t : List Link). get_or t 0 d) (sym (drop_more labels.trail at d within) ∙ is.rest ∙ drop_more old.trail at d old_within)) ∙ is_link

    rest_next : drop (at + 1) labels.trail ≡ drop (at + 1) old.trail
    rest_next = drop_more_same labels.trail old.trail at is.rest

    old_behind : drop at old.trail ≡ link ∷ drop (at + 1) labels.trail
    old_behind = sym is.rest ∙ behind

    pub sweeping_link_within : link.lit.var.0 < length labels.marks
    sweeping_link_within = link_within (take kept labels.trail) (drop (at + 1) labels.trail) link labels.marks labels.supports agrees_here

    old_more : (l : Lit) → true_before (at + 1) old.trail l ≡ (true_before at old.trail l || same_lit link.lit l)
    old_more l = list_any_more (λ (k : Link). same_lit k.lit l) old.trail at d old_within ∙ ap (λ (k : Link). true_before at old.trail l || same_lit k.lit l) old_link

    was_before : (l : Lit) → true_before at old.trail l ≡ true → true_before (at + 1) old.trail l ≡ true
    was_before l e = before_le old.trail at (at + 1) l (omega arith) e

    -- the link stands
    module _ (stands : (not (assumed (neg link.lit)) && reason_stands assumed clauses (is_marked labels.marks) link.lit link.reason) ≡ true) where
      inside : kept < length labels.trail
      inside = omega (arith, is.order, within)

      front : take (kept + 1) (set labels.trail kept link) ≡ take kept labels.trail ++ link ∷ []
      front = take_more_set labels.trail kept link inside

      back : drop (at + 1) (set labels.trail kept link) ≡ drop (at + 1) labels.trail
      back = drop-set-lt (at + 1) labels.trail kept link (omega (arith, is.order))

      same : standing_trail (set labels.trail kept link) (kept + 1) (at + 1) ≡ standing_trail labels.trail kept at
      same = ap₂ (λ (x y : List Link). x ++ y) front back ∙ append_assoc (take kept labels.trail) (link ∷ []) (drop (at + 1) labels.trail) ∙ sym here

      reason : IsReason clauses assumed (take kept labels.trail) link.lit link.reason
      reason =
          stands_reason assumed clauses old.trail (take kept labels.trail) (drop (at + 1) labels.trail) at d link labels.marks labels.supports once.once old_within old_link old_behind
          backed agrees_here link.reason refl (and_right (not (assumed (neg link.lit))) (reason_stands assumed clauses (is_marked labels.marks) link.lit link.reason) stands)

      neg_back : (l : Lit) → link.lit ≡ neg l → neg link.lit ≡ l
      neg_back l e = ap neg e ∙ neg_neg l

      apart : (l : Lit) → assumed l ≡ true → same_lit link.lit (neg l) ≡ false
      apart l e =
          not_true (same_lit link.lit (neg l))
          (λ f.
          let free : assumed (neg link.lit) ≡ false = from_not (assumed (neg link.lit)) (and_left (not (assumed (neg link.lit))) (reason_stands assumed clauses (is_marked labels.marks) link.lit link.reason) stands) in
          let is_it : neg link.lit ≡ l = neg_back l (same_lit-equal link.lit (neg l) f) in
          cc (ap assumed is_it, free, e))

      front_now : (l : Lit) → true_before (kept + 1) (set labels.trail kept link) l ≡ true → true_before (at + 1) old.trail l ≡ true
      front_now l e = elim (or_cases (true_before kept labels.trail l) (same_lit link.lit l) (sym (ap (λ (t : List Link). trail_has t l) front ∙ trail_has-push (take kept labels.trail) link l) ∙ e)) [
        | inl before ↦ was_before l (is.front_was l before)
        | inr last ↦ old_more l ∙ ap (λ b. true_before at old.trail l || b) last ∙ or_true (true_before at old.trail l)
      ]
        where
          or_true : (b : Bool) → (b || true) ≡ true
          or_true true = refl
          or_true false = refl

      same_front : (n : ℕ) → n ≤ kept → (l : Lit) → true_before n (set labels.trail kept link) l ≡ true_before n labels.trail l
      same_front n less l = ap (λ (t : List Link). trail_has t l) (take-set-le n labels.trail kept link less)

      pub sweeping_keep : (new : ℕ) → ((new ≡ kept + 1) × (at < done)) ⊎ (new ≡ looked)
          → IsSweeping assumed bools clauses old done (at + 1) (kept + 1) new (record { marks = labels.marks; supports = labels.supports; trail = set labels.trail kept link }) fallen
      sweeping_keep new way =
          record {
            len = length-set labels.trail kept link ∙ is.len;
            rest = back ∙ rest_next;
            order = omega (arith, is.order);
            place = omega (arith, old_within);
            fell = omega (arith, is.fell);
            marks = is.marks;
            supports = is.supports;
            agrees = subst (λ (t : List Link). Agrees labels.marks labels.supports t) (sym same) is.agrees;
            derivation = next (take kept labels.trail) link is.derivation reason front;
            against =
                record {
                  against =
                      λ l e.
                      ap (λ (t : List Link). trail_has t (neg l)) front
                      ∙ trail_has-push (take kept labels.trail) link (neg l)
                      ∙ ap₂ (λ a b. a || b) (is.against.against l e) (apart l e);
                };
            marked = is.marked;
            range = is.range;
            were = λ f e. was_before f (is.were f e);
            front_was = front_now;
            looked_within = elim way [ inl more ↦ omega (arith, more.0) | inr still ↦ omega (arith, still, is.looked_within) ];
            looked_was = λ l e. was_at l e way;
          }
        where
          was_at : (l : Lit) → true_before new (set labels.trail kept link) l ≡ true → ((new ≡ kept + 1) × (at < done)) ⊎ (new ≡ looked) → true_before done old.trail l ≡ true
          was_at l e (inl more) = before_le old.trail (at + 1) done l (omega (arith, more.1)) (front_now l (ap (λ n. true_before n (set labels.trail kept link) l) (sym more.0) ∙ e))
          was_at l e (inr still) =
              is.looked_was l (sym (same_front looked is.looked_within l) ∙ ap (λ n. true_before n (set labels.trail kept link) l) (sym still) ∙ e)

    -- the link fell
    pub sweeping_fall : IsSweeping assumed bools clauses old done (at + 1) kept looked (without_mark labels link.lit) (fallen ++ link.lit ∷ [])
    sweeping_fall =
        record {
          len = is.len;
          rest = rest_next;
          order = omega (arith, is.order);
          place = omega (arith, old_within);
          fell = omega (arith, is.fell, length-append fallen (link.lit ∷ []));
          marks = length-set labels.marks link.lit.var.0 None ∙ is.marks;
          supports = is.supports;
          agrees = agrees_without (take kept labels.trail) (drop (at + 1) labels.trail) link labels.marks labels.supports agrees_here;
          derivation = is.derivation;
          against = is.against;
          marked = λ l e. kept_without (take kept labels.trail) (drop (at + 1) labels.trail) link labels.marks labels.supports agrees_here fallen l (is.marked l e);
          range =
              list_all-append (in_range bools) fallen (link.lit ∷ [])
              ∙ and_both (list_all (in_range bools) fallen) (nat_lt link.lit.var.0 bools && true) is.range (and_both (nat_lt link.lit.var.0 bools) true (lt_is link.lit.var.0 bools (omega (arith, sweeping_link_within, is.marks))) refl);
          were = were_at;
          front_was = λ l e. was_before l (is.front_was l e);
          looked_within = is.looked_within;
          looked_was = is.looked_was;
        }
      where
        alone : (b : Bool) → (b || false) ≡ true → b ≡ true
        alone true h = refl
        alone false h = absurd (cc h)

        or_true : (b : Bool) → (b || true) ≡ true
        or_true true = refl
        or_true false = refl

        were_at : (f : Lit) → has_lit (fallen ++ link.lit ∷ []) f ≡ true → true_before (at + 1) old.trail f ≡ true
        were_at f e = elim (or_cases (has_lit fallen f) (same_lit link.lit f || false) (sym (list_any-append (λ (k : Lit). same_lit k f) fallen (link.lit ∷ [])) ∙ e)) [
          | inl before ↦ was_before f (is.were f before)
          | inr last ↦ old_more f ∙ ap (λ b. true_before at old.trail f || b) (alone (same_lit link.lit f) last) ∙ or_true (true_before at old.trail f)
        ]

  -- at the end of the trail what was kept is the trail
  module _ (clauses : Slots) (done at kept looked : ℕ) (labels : Labelled) (fallen : List Lit) (past : length labels.trail ≤ at) (once : Agrees old.marks old.supports old.trail) (is : IsSweeping assumed bools clauses old done at kept looked labels fallen) where
    cut_is : standing_trail labels.trail kept at ≡ take kept labels.trail
    cut_is = ap (λ (t : List Link). take kept labels.trail ++ t) (drop_all at labels.trail past) ∙ append-nil (take kept labels.trail)

    abbrev pub cut : Labelled
    cut = record { marks = labels.marks; supports = labels.supports; trail = take kept labels.trail }

    agrees_cut : Agrees labels.marks labels.supports (take kept labels.trail)
    agrees_cut = subst (λ (t : List Link). Agrees labels.marks labels.supports t) cut_is is.agrees

    pub sweeping_labels : AreLabels bools cut
    sweeping_labels = record { marks = is.marks; supports = is.supports; agrees = agrees_cut }

    pub sweeping_done : IsSwept assumed clauses old cut fallen
    sweeping_done =
        record {
          derivation = is.derivation;
          against = record { against = λ l e. agrees_cut.same (neg l) ∙ is.against.against l e };
          kept = is.marked;
          were = λ f e. once.same f ∙ sym (ap (λ (t : List Link). trail_has t f) (take_all at old.trail (omega (arith, past, is.len)))) ∙ is.were f e;
        }

    pub sweeping_within : looked ≤ length (take kept labels.trail)
    sweeping_within = omega (arith, is.looked_within, is.order, is.place, is.len, length-take-le kept labels.trail (omega (arith, is.order, is.place, is.len)))

    pub sweeping_looked : (l : Lit) → true_before looked (take kept labels.trail) l ≡ true → true_before done old.trail l ≡ true
    sweeping_looked l e = is.looked_was l (ap (λ (t : List Link). trail_has t l) (sym (take-take looked kept labels.trail is.looked_within)) ∙ e)

pub sweeping_same : {assumed : Lit → Bool} {bools : ℕ} {clauses : Slots} {old : Labelled} {done at k kept n looked : ℕ} {x labels : Labelled} {f fallen : List Lit} → k ≡ kept → n ≡ looked → x ≡ labels → f ≡ fallen
    → IsSweeping assumed bools clauses old done at kept looked labels fallen → IsSweeping assumed bools clauses old done at k n x f
sweeping_same {assumed} {bools} {clauses} {old} {done} {at} {k} {kept} {n} {looked} {x} {labels} {f} {fallen} ek en ex ef is =
    subst (λ m. IsSweeping assumed bools clauses old done at m n x f) (sym ek)
    (subst (λ m. IsSweeping assumed bools clauses old done at kept m x f) (sym en)
    (subst (λ m. IsSweeping assumed bools clauses old done at kept looked m f) (sym ex)
    (subst (λ m. IsSweeping assumed bools clauses old done at kept looked labels m) (sym ef) is)))
