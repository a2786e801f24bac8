-- Another support of a boolean that lost its label.
use Rattle.std.proofs.Common.{◌≡◌, ◌⊎◌, ℕ, ◌+◌, ◌<◌, drop, get_or, Bool, true, false, not, ◌&&◌, ◌||◌, List, [], ◌∷◌, length, Some, None, refl, sym, ap, ap₂, subst, ◌∙◌, inl, inr, Contains}
use Rattle.std.proofs.lemmas.List.{drop_more}
use Rattle.lv_base.specs.declared.ids.Lit.{Lit}
use Rattle.lv_clauses.specs.Literals.{neg, same_truth, same_var}
use Rattle.lv_clauses.specs.ClauseMap.{Slots, clause_at}
use Rattle.lv_clauses.specs.Marks.{Marks, is_marked, is_free}
use Rattle.lv_clauses.proofs.LiteralLemmas.{and_left, or_right, same_or_neg, neg_neg}
use Rattle.lv_clauses.proofs.MarkLemmas.{is_marked-marked_free}
use Rattle.lv_ltms.specs.declared.labels.Link.{Link}
use Rattle.lv_ltms.specs.declared.labels.Reason.{Reason}
use Rattle.lv_ltms.specs.declared.labels.Reason.TheVariants.{Assumed, Clause}
use Rattle.lv_ltms.specs.Trail.{same_lit, IsReason, IsDerivation, next}
use Rattle.lv_ltms.specs.Labelled.{Labelled, Agrees, AreLabels, Grows, with_link}
use Rattle.lv_ltms.specs.Watching.{Rows, lit_at, is_fallen, has_lit, IsThreaded, IsGuarded, AreGuarded, AreSettled}
use Rattle.lv_ltms.specs.Revising.{NoneAgainst, IsOneSided, AreUpright, NoneOpposed, TurnedToo, is_wanted_by, GivesReason, GetsSupport, IsUnitOf, AreMarkedOrWait, AreMarked, AreFixed, IsSwept}
use Rattle.lv_ltms.proofs.BoolLemmas.{eq_from, not_true, or_left, or_right_only}
use Rattle.lv_ltms.proofs.CountLemmas.{same_lit-self}
use Rattle.lv_ltms.proofs.LabelLemmas.{Grows-push, Grows-self, Grows-then, pushed_has, has_not_free, neg_not_free, not_free_cases}
use Rattle.lv_ltms.proofs.TrailLemmas.{same_lit-equal, or_cases}
use Rattle.lv_ltms.proofs.TraverseLemmas.{Watches, listed_watches, watch_listed}
use Rattle.lv_ltms.proofs.VisitLemmas.{kept_free}

module _ (assumed : Lit → Bool) (near far : Rows) (old : Labelled) (l : Lit) (agrees : Agrees old.marks old.supports old.trail) (one_sided : IsOneSided assumed) (against : NoneAgainst assumed (is_marked old.marks)) where
  -- the labels stay as they are
  kept_as_is : (assumed l ≡ true → is_marked old.marks l ≡ true)
      → ((slots : Slots) (bools : ℕ) → IsThreaded near slots bools → (id : ℕ) → IsUnitOf slots (lit_at near) (lit_at far) l id → assumed (neg l) ≡ false → is_free old.marks l ≡ false) → GetsSupport assumed near far old old l
  kept_as_is by_assumption by_unit =
      record {
        grows = Grows-self old agrees;
        against = against;
        by_assumption = by_assumption;
        derivation = λ slots bools truth marks fallen threaded guarded d. d;
        by_unit = by_unit;
      }

  pub supported_true : is_marked old.marks l ≡ true → GetsSupport assumed near far old old l
  supported_true e = kept_as_is (λ a. e) (λ slots bools threaded id unit free. has_not_free old.marks l e)

  pub supported_false : is_marked old.marks (neg l) ≡ true → GetsSupport assumed near far old old l
  supported_false e = kept_as_is (λ a. absurd (cc (against.against l a, e))) (λ slots bools threaded id unit free. neg_not_free old.marks l e)

  pub supported_against : assumed (neg l) ≡ true → GetsSupport assumed near far old old l
  supported_against e = kept_as_is (λ a. absurd (cc (one_sided.one_side l a, e))) (λ slots bools threaded id unit free. absurd (cc (e, free)))

  -- no support is wanted
  pub supported_unwanted : is_wanted_by assumed (is_marked old.marks) l ≡ false → GetsSupport assumed near far old old l
  supported_unwanted e = by_marked (is_marked old.marks l) (is_marked old.marks (neg l)) (assumed (neg l)) refl refl refl e
    where
      by_marked : (a b c : Bool) → is_marked old.marks l ≡ a → is_marked old.marks (neg l) ≡ b → assumed (neg l) ≡ c → (not a && not b && not c) ≡ false → GetsSupport assumed near far old old l
      by_marked true b c p q r h = supported_true p
      by_marked false true c p q r h = supported_false q
      by_marked false false true p q r h = supported_against r
      by_marked false false false p q r h = absurd (cc h)

  -- nothing supports the literal
  pub supported_by_none : GivesReason assumed near far l None → GetsSupport assumed near far old old l
  supported_by_none none =
      kept_as_is (λ a. absurd (cc (a, none.0)))
      (λ slots bools threaded id unit free.
      let listed : Contains (threaded.list l) (record { 0 = id }) =
      subst (λ (k : Lit). Contains (threaded.list k) (record { 0 = id })) unit.near_lit (watch_listed near slots bools threaded id unit.clause unit.member unit.present unit.has) in
      absurd (none.1 (threaded.list l) (record { 0 = id }) (threaded.row l) listed unit.far_lit))

  -- a support was found
  module _ (r : Reason) (gives : GivesReason assumed near far l (Some r)) (within : l.var.0 < length old.marks) (inside : l.var.0 < length old.supports) (p : is_marked old.marks l ≡ false) (q : is_marked old.marks (neg l) ≡ false)
      (free : assumed (neg l) ≡ false) where
    abbrev pub found_link : Link
    found_link = record { lit = l; reason = r }

    reason_good : (slots : Slots) (bools : ℕ) (truth : Lit → Bool) (marks : Marks) (fallen : List Lit) → IsThreaded near slots bools → AreGuarded slots (lit_at near) (lit_at far) truth marks fallen
        → (s : Reason) → GivesReason assumed near far l (Some s) → IsReason slots assumed old.trail l s
    reason_good slots bools truth marks fallen threaded guarded Assumed given = given
    reason_good slots bools truth marks fallen threaded guarded (Clause id) given =
        let listed : Watches (clause_at slots id.0) (lit_at near id.0) l = listed_watches near slots bools threaded l id (given.0 (threaded.list l) (threaded.row l)) in
        let guard : IsGuarded listed.clause (lit_at near id.0) (lit_at far id.0) truth marks fallen = guarded.guarded id.0 listed.clause listed.member listed.present listed.has in
        record {
          clause = listed.clause;
          present = listed.present;
          member = subst (Contains listed.clause) listed.is guard.member;
          others = λ m h differs. absurd (differs (guard.lone (listed.is ∙ sym given.1) m h ∙ listed.is));
        }

    still_against : (m : Lit) → assumed m ≡ true → is_marked (with_link old found_link).marks (neg m) ≡ false
    still_against m a =
        let other : same_lit l (neg m) ≡ false =
        not_true (same_lit l (neg m))
        (λ e.
        let is : neg l ≡ m = ap neg (same_lit-equal l (neg m) e) ∙ neg_neg m in
        cc (ap assumed is, a, free)) in
        is_marked-marked_free old.marks l (neg m) within p q ∙ ap₂ (λ x y. x || y) (against.against m a) other

    pub supported_found : GetsSupport assumed near far old (with_link old found_link) l
    supported_found =
        record {
          grows = Grows-push old found_link within inside p q agrees;
          against = record { against = still_against };
          by_assumption = λ a. pushed_has old found_link within inside p q agrees;
          derivation = λ slots bools truth marks fallen threaded guarded d. next old.trail found_link d (reason_good slots bools truth marks fallen threaded guarded r gives) refl;
          by_unit = λ slots bools threaded id unit f. has_not_free (with_link old found_link).marks l (pushed_has old found_link within inside p q agrees);
        }

-- what is wanted is neither true nor false, nor against an assumption
pub record IsWanted (assumed truth : Lit → Bool) (l : Lit) : Type 0 where
  pub not_true : truth l ≡ false
  pub not_false : truth (neg l) ≡ false
  pub free : assumed (neg l) ≡ false

pub wanted_parts : (assumed truth : Lit → Bool) (l : Lit) → is_wanted_by assumed truth l ≡ true → IsWanted assumed truth l
wanted_parts assumed truth l e = by_value (truth l) (truth (neg l)) (assumed (neg l)) refl refl refl e
  where
    by_value : (a b c : Bool) → truth l ≡ a → truth (neg l) ≡ b → assumed (neg l) ≡ c → (not a && not b && not c) ≡ true → IsWanted assumed truth l
    by_value true b c p q r h = absurd (cc h)
    by_value false true c p q r h = absurd (cc h)
    by_value false false true p q r h = absurd (cc h)
    by_value false false false p q r h = record { not_true = p; not_false = q; free = r }

-- the literal at a place is among those from there on
pub first_waits : (all : List Lit) (i : ℕ) (d : Lit) → i < length all → has_lit (drop i all) (get_or all i d) ≡ true
first_waits all i d within = ap (λ (ls : List Lit). has_lit ls (get_or all i d)) (drop_more all i d within) ∙ or_left (same_lit (get_or all i d) (get_or all i d)) (has_lit (drop (i + 1) all) (get_or all i d)) (same_lit-self (get_or all i d))

-- booleans that wait for another support, and the labels meanwhile
pub record IsSupporting (assumed : Lit → Bool) (near far : Rows) (both : Bool) (start : Labelled) (all waiting : List Lit) (labels : Labelled) : Type 0 where
  pub grows : Grows start labels
  pub among : (f : Lit) → has_lit waiting f ≡ true → has_lit all f ≡ true
  pub derivation : (slots : Slots) (bools : ℕ) (truth : Lit → Bool) (marks : Marks) (fallen : List Lit) → IsThreaded near slots bools → AreGuarded slots (lit_at near) (lit_at far) truth marks fallen
      → IsDerivation slots assumed start.trail → IsDerivation slots assumed labels.trail
  pub against : NoneAgainst assumed (is_marked labels.marks)
  pub marked : AreMarkedOrWait assumed labels waiting
  pub settled : (slots : Slots) (bools : ℕ) → IsThreaded near slots bools → (both ≡ false → NoneOpposed slots (lit_at near) (lit_at far) all) → AreSettled slots (lit_at near) (lit_at far) start.marks all → AreSettled slots (lit_at near) (lit_at far) labels.marks waiting

pub supporting_start : (assumed : Lit → Bool) (near far : Rows) (both : Bool) (start : Labelled) (all : List Lit) (bools : ℕ) → AreLabels bools start → NoneAgainst assumed (is_marked start.marks) → AreMarkedOrWait assumed start all → IsSupporting assumed near far both start all all start
supporting_start assumed near far both start all bools labels against marked =
    record {
      grows = Grows-self start labels.agrees;
      among = λ f e. e;
      derivation = λ slots bools truth marks fallen threaded guarded d. d;
      against = against;
      marked = marked;
      settled = λ slots bools threaded none settled. settled;
    }

none_fell : (l : Lit) (waiting : List Lit) → waiting ≡ [] → is_fallen waiting l ≡ true → ⊥
none_fell l [] e f = cc f
none_fell l (w ∷ ws) e f = cc e

pub supporting_end : (assumed : Lit → Bool) (near far : Rows) (both : Bool) (start : Labelled) (all waiting : List Lit) (labels : Labelled) → waiting ≡ [] → IsSupporting assumed near far both start all waiting labels → AreMarked assumed labels
supporting_end assumed near far both start all waiting labels none is =
    record {
      marked = λ l a. elim (or_cases (is_marked labels.marks l) (is_fallen waiting l) (is.marked.marked l a)) [
        | inl here ↦ here
        | inr fell ↦ absurd (none_fell l waiting none fell)
      ];
    }

-- the negation is looked at too
pub turned_by : (assumed : Lit → Bool) (near far : Rows) (both : Bool) (all : List Lit) (old new : Labelled) (f : Lit) → GetsSupport assumed near far old new (neg f) → TurnedToo assumed near far both all old new f
turned_by assumed near far both all old new f gets =
    record {
      grows = gets.grows;
      against = gets.against;
      by_assumption = gets.by_assumption;
      derivation = gets.derivation;
      by_unit = λ slots bools threaded none. gets.by_unit slots bools threaded;
    }

-- nothing gives the negation
pub turned_never : (assumed : Lit → Bool) (near far : Rows) (both : Bool) (all : List Lit) (old : Labelled) (f : Lit) → Agrees old.marks old.supports old.trail → NoneAgainst assumed (is_marked old.marks) → both ≡ false → AreUpright assumed all → has_lit all f ≡ true
    → TurnedToo assumed near far both all old old f
turned_never assumed near far both all old f agrees against never upright among =
    record {
      grows = Grows-self old agrees;
      against = against;
      by_assumption = λ a. absurd (cc (a, upright.upright f among));
      derivation = λ slots bools truth marks fallen threaded guarded d. d;
      by_unit = λ slots bools threaded none id unit free. absurd ((none never).opposed f among id unit);
    }

module _ (assumed : Lit → Bool) (near far : Rows) (both : Bool) (start : Labelled) (all : List Lit) (old mid new : Labelled) (f : Lit) (waiting : List Lit) (is : IsSupporting assumed near far both start all (f ∷ waiting) old)
    (first : GetsSupport assumed near far old mid f) (second : TurnedToo assumed near far both all mid new f) where
  grows_both : Grows old new
  grows_both = Grows-then old mid new first.grows second.grows

  -- an assumption of the boolean is marked
  assumed_marked : (l : Lit) → assumed l ≡ true → (l ≡ f) ⊎ (l ≡ neg f) → is_marked new.marks l ≡ true
  assumed_marked l a (inl same) =
      let a2 : assumed f ≡ true = ap assumed (sym same) ∙ a in
      ap (is_marked new.marks) same ∙ second.grows.kept f (first.by_assumption a2)
  assumed_marked l a (inr turned) =
      let a2 : assumed (neg f) ≡ true = ap assumed (sym turned) ∙ a in
      ap (is_marked new.marks) turned ∙ second.by_assumption a2

  -- a clause of one literal of the boolean has it marked
  unit_marked : (slots : Slots) (bools : ℕ) → IsThreaded near slots bools → (both ≡ false → NoneOpposed slots (lit_at near) (lit_at far) all) → (l : Lit) (id : ℕ) → IsUnitOf slots (lit_at near) (lit_at far) l id → (l ≡ f) ⊎ (l ≡ neg f) → (b : Bool) → assumed (neg l) ≡ b → is_free new.marks l ≡ false
  unit_marked slots bools threaded none l id unit way true a = neg_not_free new.marks l (assumed_marked (neg l) a (turn way))
    where
      turn : (l ≡ f) ⊎ (l ≡ neg f) → (neg l ≡ f) ⊎ (neg l ≡ neg f)
      turn (inl same) = inr (ap neg same)
      turn (inr turned) = inl (ap neg turned ∙ neg_neg f)
  unit_marked slots bools threaded none l id unit (inl same) false a =
      ap (is_free new.marks) same
      ∙ kept_free mid new second.grows f
      (first.by_unit slots bools threaded id (subst (λ (k : Lit). IsUnitOf slots (lit_at near) (lit_at far) k id) same unit) (ap (λ k. assumed (neg k)) (sym same) ∙ a))
  unit_marked slots bools threaded none l id unit (inr turned) false a =
      ap (is_free new.marks) turned
      ∙ second.by_unit slots bools threaded none id (subst (λ (k : Lit). IsUnitOf slots (lit_at near) (lit_at far) k id) turned unit) (ap (λ k. assumed (neg k)) (sym turned) ∙ a)

  way_of : (l : Lit) → same_var f l ≡ true → (l ≡ f) ⊎ (l ≡ neg f)
  way_of l e = same_or_neg l f (sym (eq_from f.var.0 l.var.0 e))

  pub both_supported : IsSupporting assumed near far both start all waiting new
  both_supported =
      record {
        grows = Grows-then start old new is.grows grows_both;
        among = λ g e. is.among g (or_right (same_lit f g) (has_lit waiting g) e);
        derivation =
            λ slots bools truth marks fallen threaded guarded d.
            second.derivation slots bools truth marks fallen threaded guarded (first.derivation slots bools truth marks fallen threaded guarded (is.derivation slots bools truth marks fallen threaded guarded d));
        against = second.against;
        marked = record { marked = λ l a. by_same l a (same_var f l) refl };
        settled =
            λ slots bools threaded none settled.
            record {
              settled = λ id c m at h e fine. settled_at slots bools threaded none (is.settled slots bools threaded none settled) id c m at h e fine (same_var f (lit_at near id)) refl;
            };
      }
    where
      settled_at : (slots : Slots) (bools : ℕ) → IsThreaded near slots bools → (both ≡ false → NoneOpposed slots (lit_at near) (lit_at far) all) → AreSettled slots (lit_at near) (lit_at far) old.marks (f ∷ waiting) → (id : ℕ) (c : List Lit) (m : Lit) → clause_at slots id ≡ Some c → Contains c m → lit_at near id ≡ lit_at far id
          → is_fallen waiting (lit_at near id) ≡ false → (b : Bool) → same_var f (lit_at near id) ≡ b → is_free new.marks (lit_at near id) ≡ false
      settled_at slots bools threaded none settled id c m at h e fine true v =
          unit_marked slots bools threaded none (lit_at near id) id (record { clause = c; member = m; present = at; has = h; near_lit = refl; far_lit = sym e }) (way_of (lit_at near id) v) (assumed (neg (lit_at near id))) refl
      settled_at slots bools threaded none settled id c m at h e fine false v =
          kept_free old new grows_both (lit_at near id) (settled.settled id c m at h e (ap (λ b. b || is_fallen waiting (lit_at near id)) v ∙ fine))

      by_same : (l : Lit) → assumed l ≡ true → (b : Bool) → same_var f l ≡ b → (is_marked new.marks l || is_fallen waiting l) ≡ true
      by_same l a true e = or_left (is_marked new.marks l) (is_fallen waiting l) (assumed_marked l a (way_of l e))
      by_same l a false e = by_mark (is_marked old.marks l) refl
        where
          by_mark : (b : Bool) → is_marked old.marks l ≡ b → (is_marked new.marks l || is_fallen waiting l) ≡ true
          by_mark true h = or_left (is_marked new.marks l) (is_fallen waiting l) (grows_both.kept l h)
          by_mark false h =
              let waits : is_fallen (f ∷ waiting) l ≡ true = or_right_only (is_marked old.marks l) (is_fallen (f ∷ waiting) l) (is.marked.marked l a) h in
              or_right (is_marked new.marks l) (is_fallen waiting l) (or_right_only (same_var f l) (is_fallen waiting l) waits e)

-- a literal that fell has its boolean fallen
pub fallen_var : (fallen : List Lit) (l : Lit) → has_lit fallen l ≡ true → is_fallen fallen l ≡ true
fallen_var [] l e = absurd (cc e)
fallen_var (f ∷ fs) l e = by_parts (or_cases (same_lit f l) (has_lit fs l) e) (λ h. fallen_var fs l h)
  where
    by_parts : (same_lit f l ≡ true) ⊎ (has_lit fs l ≡ true) → (has_lit fs l ≡ true → is_fallen fs l ≡ true) → (same_var f l || is_fallen fs l) ≡ true
    by_parts (inl same) later = or_left (same_var f l) (is_fallen fs l) (and_left (same_var f l) (same_truth f.sign l.sign) same)
    by_parts (inr rest) later = or_right (same_var f l) (is_fallen fs l) (later rest)

-- the other literal of the boolean fell as well
fallen_neg : (fallen : List Lit) (l : Lit) → is_fallen fallen (neg l) ≡ is_fallen fallen l
fallen_neg fallen l = refl

pub marked_or_fell : (fallen : List Lit) (marks : Marks) (l : Lit) → (is_marked marks l || has_lit fallen l) ≡ true → (is_marked marks l || is_fallen fallen l) ≡ true
marked_or_fell fallen marks l e = elim (or_cases (is_marked marks l) (has_lit fallen l) e) [
  | inl here ↦ or_left (is_marked marks l) (is_fallen fallen l) here
  | inr fell ↦ or_right (is_marked marks l) (is_fallen fallen l) (fallen_var fallen l fell)
]

-- an assumption whose boolean was marked is marked still, or its boolean fell
pub swept_marked : (assumed : Lit → Bool) (clauses : Slots) (old new : Labelled) (fallen : List Lit) → AreFixed assumed old → IsSwept assumed clauses old new fallen → AreMarkedOrWait assumed new fallen
swept_marked assumed clauses old new fallen fixed swept = record { marked = λ l a. by_mark l a (not_free_cases old.marks l (fixed.fixed l a)) }
  where
    by_mark : (l : Lit) → assumed l ≡ true → (is_marked old.marks l ≡ true) ⊎ (is_marked old.marks (neg l) ≡ true) → (is_marked new.marks l || is_fallen fallen l) ≡ true
    by_mark l a (inl here) = marked_or_fell fallen new.marks l (swept.kept l here)
    by_mark l a (inr turned) =
        or_right (is_marked new.marks l) (is_fallen fallen l) (or_right_only (is_marked new.marks (neg l)) (is_fallen fallen (neg l)) (marked_or_fell fallen new.marks (neg l) (swept.kept (neg l) turned)) (swept.against.against l a))

-- the boolean of a literal that was marked is marked still, or fell
pub swept_settled : (assumed : Lit → Bool) (clauses slots : Slots) (near far : ℕ → Lit) (old new : Labelled) (fallen : List Lit) → IsSwept assumed clauses old new fallen → AreSettled slots near far old.marks [] → AreSettled slots near far new.marks fallen
swept_settled assumed clauses slots near far old new fallen swept is =
    record { settled = λ id c m at h e fine. by_mark (near id) fine (not_free_cases old.marks (near id) (is.settled id c m at h e refl)) }
  where
    by_mark : (l : Lit) → is_fallen fallen l ≡ false → (is_marked old.marks l ≡ true) ⊎ (is_marked old.marks (neg l) ≡ true) → is_free new.marks l ≡ false
    by_mark l fine (inl here) = elim (or_cases (is_marked new.marks l) (is_fallen fallen l) (marked_or_fell fallen new.marks l (swept.kept l here))) [
      | inl still ↦ has_not_free new.marks l still
      | inr fell ↦ absurd (cc (fell, fine))
    ]
    by_mark l fine (inr turned) = elim (or_cases (is_marked new.marks (neg l)) (is_fallen fallen (neg l)) (marked_or_fell fallen new.marks (neg l) (swept.kept (neg l) turned))) [
      | inl still ↦ neg_not_free new.marks l still
      | inr fell ↦ absurd (cc (fell, fine))
    ]

-- a literal that guarded another is true still, or fell
pub swept_guarded : (assumed : Lit → Bool) (clauses slots : Slots) (near far : ℕ → Lit) (truth : Lit → Bool) (old new : Labelled) (fallen : List Lit) → IsSwept assumed clauses old new fallen → AreGuarded slots near far truth old.marks []
    → AreGuarded slots near far truth new.marks fallen
swept_guarded assumed clauses slots near far truth old new fallen swept is =
    record {
      guarded =
          λ id c m at h.
          let was : IsGuarded c (near id) (far id) truth old.marks [] = is.guarded id c m at h in
          record {
            member = was.member;
            lone = was.lone;
            held = λ e fine. elim (or_cases (is_marked new.marks (far id)) (has_lit fallen (far id)) (swept.kept (far id) (was.held e refl))) [
              | inl still ↦ still
              | inr fell ↦ absurd (cc (fell, fine))
            ];
          };
    }
