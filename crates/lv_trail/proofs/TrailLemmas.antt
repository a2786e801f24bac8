-- What one entry more or less makes of a trail.
use Rattle.std.proofs.Common.{◌≡◌, ◌≢◌, ◌⊎◌, ℕ, ◌+◌, ◌-◌, ◌<◌, ◌≤◌, Bool, true, false, not, ◌&&◌, ◌||◌, List, [], ◌∷◌, ◌++◌, length, take, drop, get_or, set, Option, Some, None, is_none, is_some, count_by, cond, eqb, append_assoc, refl, sym, ap, subst, ◌∙◌, arith, inl, inr, Contains}
use Rattle.std.proofs.lemmas.Bool.{cases_eq, cases_lt}
use Rattle.std.proofs.lemmas.List.{get_or-set_same, get_or-set_other, length-set, length-replicate, get_or_append_left, take-append-le, map-append, take-map, take-take, take_more, get_or-take, length-take-le, length-append, append-nil}
use Rattle.std.proofs.Math.Seq.{take-append_seam, drop-append_seam, get_or-append_seam, take-length}
use Rattle.std.proofs.lemmas.List.Sums.{sum_by-set}
use Rattle.std.proofs.lemmas.List.Folds.{sum_by-replicate, sum_by-zero}
use Rattle.std.specs.List.{list_all}
use Rattle.std.proofs.lemmas.Option.{same_Some, none-some}
use Rattle.lv_base.specs.declared.ids.Lit.{Lit}
use Rattle.lv_clauses.specs.Literals.{neg, same_truth, in_range, is_clause}
use Rattle.lv_clauses.specs.ClauseMap.{ClauseMap}
use Rattle.lv_clauses.specs.Marks.{Marks, nothing, is_marked, marked, mark_is, is_free, unmet, look_at, finding_of}
use Rattle.lv_clauses.specs.declared.marks.Finding.TheVariants.{AllFalse, Unit}
use Rattle.lv_clauses.proofs.LiteralLemmas.{and_left, and_right, and_both, Contains-nil, or_right}
use Rattle.lv_clauses.proofs.MarkLemmas.{is_marked-nothing, is_marked-marked_free}
use Rattle.lv_clauses.specs.declared.log.Hint.{Hint}
use Rattle.lv_clauses.specs.declared.log.Step.{Step}
use Rattle.lv_clauses.specs.Following.{clause_of}
use Rattle.lv_trail.specs.declared.trail.Entry.{Entry}
use Rattle.lv_trail.specs.Trail.{same_lit, among, lits_of, is_open, IsForced, IsFalse, IsChain, IsTrail, IsTurned, IsExtended, IsPropagated, turned}
use Rattle.lv_trail.specs.declared.analysis.Flip.{Flip}
use Rattle.lv_trail.proofs.SeenLemmas.{in_filter, filter_same, contains_take}
use Rattle.lv_trail.proofs.ListLemmas.{eq_isnt, lt_from, same_lit-self, among_push, among_member, among_contained, clause_range, clause_take, clause_last, clause_push, lt_is}

none_from : (o : Option Bool) → is_none o ≡ true → o ≡ None
none_from None e = refl
none_from (Some b) e = absurd (cc)

-- a boolean marked both ways
both_ways : (o : Option Bool) (s : Bool) → mark_is o s ≡ true → mark_is o (not s) ≡ true → ⊥
both_ways None s p q = absurd (cc)
both_ways (Some true) true p q = absurd (cc)
both_ways (Some true) false p q = absurd (cc)
both_ways (Some false) true p q = absurd (cc)
both_ways (Some false) false p q = absurd (cc)

pub one_sign : (marks : Marks) (l : Lit) → is_marked marks l ≡ true → is_marked marks (neg l) ≡ true → ⊥
one_sign marks l p q = both_ways (get_or marks l.var.0 None) l.sign p q

false_or : (a b : Bool) → a ≡ false → b ≡ false → (a || b) ≡ false
false_or true b p q = absurd (cc)
false_or false b p q = q

or_false_left : (a b : Bool) → b ≡ false → (a || b) ≡ a
or_false_left true b e = refl
or_false_left false b e = e

pub not_so : (b : Bool) → (b ≡ true → ⊥) → b ≡ false
not_so true never = absurd (never refl)
not_so false never = refl

pub none_at : (h : Hint) → None ≡ Some h → ⊥
none_at h e = none-some h e

pub lits_push : (entries : List Entry) (e : Entry) → lits_of (entries ++ e ∷ []) ≡ lits_of entries ++ e.lit ∷ []
lits_push entries e = map-append (λ (k : Entry). k.lit) entries (e ∷ [])

-- a free literal isn't marked, nor is its negation
pub free_has : (marks : Marks) (l m : Lit) → is_free marks l ≡ true → m.var.0 ≡ l.var.0 → is_marked marks m ≡ false
free_has marks l m free same = ap (λ k. mark_is (get_or marks k None) m.sign) same ∙ ap (λ (o : Option Bool). mark_is o m.sign) (none_from (get_or marks l.var.0 None) free)

-- how often there is no mark
abbrev weight : Option Bool → ℕ
weight o = cond (is_none o) 1 0

count_set : (marks : Marks) (v : ℕ) (o : Option Bool) → v < length marks → count_by is_none (set marks v o) + weight (get_or marks v None) ≡ count_by is_none marks + weight o
count_set marks v o within = sum_by-set weight marks v o None within

one_of : (o : Option Bool) → is_none o ≡ true → weight o ≡ 1
one_of o e = ap (λ b. cond b 1 0) e

none_of : (o : Option Bool) → is_none o ≡ false → weight o ≡ 0
none_of o e = ap (λ b. cond b 1 0) e

none_count : (n : ℕ) → count_by is_none (nothing n) ≡ n
none_count n = omega (arith, sum_by-replicate weight n None)

has_some : (marks : Marks) (l : Lit) → is_marked marks l ≡ true → is_none (get_or marks l.var.0 None) ≡ false
has_some marks l e = by_mark (get_or marks l.var.0 None) e
  where
    by_mark : (o : Option Bool) → mark_is o l.sign ≡ true → is_none o ≡ false
    by_mark None f = absurd (cc)
    by_mark (Some b) f = refl

module _ (cs : ClauseMap) (log : List Step) where
  pub trail_start : (marks : Marks) → marks ≡ nothing cs.bools → IsTrail cs log marks []
  trail_start marks e =
      record {
        len = ap (λ (m : Marks). length m) e ∙ length-replicate {A = Option Bool} cs.bools None;
        same = λ l. ap (λ (m : Marks). is_marked m l) e ∙ is_marked-nothing cs.bools l;
        room = omega (arith, ap (λ (m : Marks). count_by is_none m) e, none_count cs.bools, ap (λ (m : Marks). length m) e, length-replicate {A = Option Bool} cs.bools None);
        chain = record { clause = refl; forced = λ place d h within. absurd (omega (arith, within)) };
      }

  -- an entry more, of a boolean in range that no entry has
  pub chain_push : (entries : List Entry) → IsChain cs log entries → (e : Entry) → in_range cs.bools e.lit ≡ true → ((m : Lit) → Contains (lits_of entries) m → m.var.0 ≡ e.lit.var.0 → ⊥)
      → ((h : Hint) → e.reason ≡ Some h → IsForced cs.slots log (lits_of entries) e.lit h) → IsChain cs log (entries ++ e ∷ [])
  chain_push entries chain e within apart reason =
      record {
        clause = ap (is_clause cs.bools) (lits_push entries e) ∙ clause_push cs.bools (lits_of entries) e.lit chain.clause within apart;
        forced = λ place d h below is. by_place place d h is (cases_lt place (length entries)) below;
      }
    where
      by_place : (place : ℕ) (d : Entry) (h : Hint) → (get_or (entries ++ e ∷ []) place d).reason ≡ Some h → (place < length entries) ⊎ (length entries ≤ place) → place < length (entries ++ e ∷ [])
          → IsForced cs.slots log (lits_of (take place (entries ++ e ∷ []))) (get_or (entries ++ e ∷ []) place d).lit h
      by_place place d h is (inl before) below =
          let same : get_or (entries ++ e ∷ []) place d ≡ get_or entries place d = get_or_append_left entries (e ∷ []) d place before in
          let front : take place (entries ++ e ∷ []) ≡ take place entries = take-append-le place entries (e ∷ []) (omega (arith, before)) in
          subst (λ (k : Entry). IsForced cs.slots log (lits_of (take place (entries ++ e ∷ []))) k.lit h) (sym same)
          (subst (λ (es : List Entry). IsForced cs.slots log (lits_of es) (get_or entries place d).lit h) (sym front) (chain.forced place d h before (sym (ap (λ (k : Entry). k.reason) same) ∙ is)))
      by_place place d h is (inr past) below =
          let here : place ≡ length entries = grind (arith, below, past, length-append entries (e ∷ [])) in
          let same : get_or (entries ++ e ∷ []) place d ≡ e = ap (λ k. get_or (entries ++ e ∷ []) k d) here ∙ get_or-append_seam entries e [] d in
          let front : take place (entries ++ e ∷ []) ≡ entries = ap (λ k. take k (entries ++ e ∷ [])) here ∙ take-append_seam entries (e ∷ []) in
          subst (λ (k : Entry). IsForced cs.slots log (lits_of (take place (entries ++ e ∷ []))) k.lit h) (sym same)
          (subst (λ (es : List Entry). IsForced cs.slots log (lits_of es) e.lit h) (sym front) (reason h (sym (ap (λ (k : Entry). k.reason) same) ∙ is)))

  pub chain_take : (entries : List Entry) → IsChain cs log entries → (count : ℕ) → count ≤ length entries → IsChain cs log (take count entries)
  chain_take entries chain count fits =
      record {
        clause = ap (is_clause cs.bools) (sym (take-map (λ (k : Entry). k.lit) count entries)) ∙ clause_take cs.bools count (lits_of entries) chain.clause;
        forced =
            λ k b h below is.
            let early : k < count = omega (arith, below, length-take-le count entries fits) in
            let same : get_or (take count entries) k b ≡ get_or entries k b = get_or-take count entries k b early in
            let fronts : take k (take count entries) ≡ take k entries = take-take k count entries (omega (arith, early)) in
            subst (λ (j : Entry). IsForced cs.slots log (lits_of (take k (take count entries))) j.lit h) (sym same)
            (subst (λ (es : List Entry). IsForced cs.slots log (lits_of es) (get_or entries k b).lit h) (sym fronts) (chain.forced k b h (omega (arith, early, fits)) (sym (ap (λ (j : Entry). j.reason) same) ∙ is)));
      }

  module _ (marks : Marks) (entries : List Entry) (trail : IsTrail cs log marks entries) where
    -- what is among the entries is of no free boolean
    pub busy : (l m : Lit) → is_free marks l ≡ true → Contains (lits_of entries) m → m.var.0 ≡ l.var.0 → ⊥
    busy l m free h same = cc (free_has marks l m free same, trail.same m ∙ among_member (lits_of entries) m h)

    pub trail_push : (e : Entry) → is_open marks e.lit ≡ true → ((h : Hint) → e.reason ≡ Some h → IsForced cs.slots log (lits_of entries) e.lit h)
        → IsTrail cs log (marked marks e.lit) (entries ++ e ∷ [])
    trail_push e is_free_now reason =
        record {
          len = length-set marks e.lit.var.0 (Some e.lit.sign) ∙ trail.len;
          same =
              λ l. is_marked-marked_free marks e.lit l within (free_has marks e.lit e.lit free refl) (free_has marks e.lit (neg e.lit) free refl)
              ∙ ap (λ b. b || same_lit e.lit l) (trail.same l)
              ∙ sym (ap (λ ls. among ls l) (lits_push entries e) ∙ among_push (lits_of entries) e.lit l);
          room = omega (arith, trail.room, length-set marks e.lit.var.0 (Some e.lit.sign), length-append entries (e ∷ []), count_set marks e.lit.var.0 (Some e.lit.sign) within, one_of (get_or marks e.lit.var.0 None) free);
          chain = chain_push entries trail.chain e (ap (λ n. in_range n e.lit) (sym trail.len) ∙ and_left (in_range (length marks) e.lit) (is_free marks e.lit) is_free_now) (λ m h same. busy e.lit m free h same) reason;
        }
      where
        free : is_free marks e.lit ≡ true
        free = and_right (in_range (length marks) e.lit) (is_free marks e.lit) is_free_now

        within : e.lit.var.0 < length marks
        within = lt_from e.lit.var.0 (length marks) (and_left (in_range (length marks) e.lit) (is_free marks e.lit) is_free_now)

    pub trail_pop : (place : ℕ) (d : Entry) → place + 1 ≡ length entries → IsTrail cs log (set marks (get_or entries place d).lit.var.0 None) (take place entries)
    trail_pop place d last =
        record {
          len = length-set marks e.lit.var.0 None ∙ trail.len;
          same = λ l. by_var l (cases_eq l.var.0 e.lit.var.0);
          room =
              omega (arith, trail.room, last, length-set marks e.lit.var.0 None, length-take-le place entries (omega (arith, last)), count_set marks e.lit.var.0 None within, none_of (get_or marks e.lit.var.0 None) busy_here);
          chain = chain_take entries trail.chain place (omega (arith, last));
        }
      where
        e : Entry
        e = get_or entries place d

        front : List Entry
        front = take place entries

        whole : lits_of entries ≡ lits_of front ++ e.lit ∷ []
        whole =
            ap (λ (es : List Entry). lits_of es) (sym (take-length entries) ∙ ap (λ k. take k entries) (sym last) ∙ take_more entries place d (omega (arith, last)))
            ∙ lits_push front e

        whole_clause : is_clause cs.bools (lits_of front ++ e.lit ∷ []) ≡ true
        whole_clause = ap (is_clause cs.bools) (sym whole) ∙ trail.chain.clause

        was : (l : Lit) → is_marked marks l ≡ (among (lits_of front) l || same_lit e.lit l)
        was l = trail.same l ∙ ap (λ ls. among ls l) whole ∙ among_push (lits_of front) e.lit l

        within : e.lit.var.0 < length marks
        within = omega (arith, trail.len, clause_range cs.bools (lits_of front ++ e.lit ∷ []) e.lit whole_clause (among_contained (lits_of front ++ e.lit ∷ []) e.lit (among_push (lits_of front) e.lit e.lit ∙ or_right (among (lits_of front) e.lit) (same_lit e.lit e.lit) (same_lit-self e.lit))))

        busy_here : is_none (get_or marks e.lit.var.0 None) ≡ false
        busy_here = has_some marks e.lit (was e.lit ∙ or_right (among (lits_of front) e.lit) (same_lit e.lit e.lit) (same_lit-self e.lit))

        by_var : (l : Lit) → (l.var.0 ≡ e.lit.var.0) ⊎ (l.var.0 ≢ e.lit.var.0) → is_marked (set marks e.lit.var.0 None) l ≡ among (lits_of front) l
        by_var l (inl same) =
            ap (λ (o : Option Bool). mark_is o l.sign) (ap (λ k. get_or (set marks e.lit.var.0 None) k None) same ∙ get_or-set_same marks e.lit.var.0 None None within)
            ∙ sym (not_so (among (lits_of front) l) (λ h. clause_last cs.bools (lits_of front) e.lit l whole_clause (among_contained (lits_of front) l h) same))
        by_var l (inr differs) =
            ap (λ (o : Option Bool). mark_is o l.sign) (get_or-set_other marks e.lit.var.0 l.var.0 None None differs)
            ∙ was l
            ∙ or_false_left (among (lits_of front) l) (same_lit e.lit l) (ap (λ b. b && same_truth e.lit.sign l.sign) (eq_isnt e.lit.var.0 l.var.0 (λ f. differs (sym f))))

pub popped : (cs : ClauseMap) (log : List Step) (marks now : Marks) (entries left : List Entry) → 0 < length entries → left ≡ take (length entries - 1) entries
    → ((d : Entry) → now ≡ set marks (get_or entries (length entries - 1) d).lit.var.0 None) → IsTrail cs log marks entries → IsTrail cs log now left
popped cs log marks now entries left some is unset trail =
    let blank : Entry = record { lit = record { var = record { 0 = 0 }; sign = false }; reason = None } in
    subst (λ (m : Marks). IsTrail cs log m left) (sym (unset blank))
    (subst (IsTrail cs log (set marks (get_or entries (length entries - 1) blank).lit.var.0 None)) (sym is) (trail_pop cs log marks entries trail (length entries - 1) blank (omega (arith, some))))

unmarked : (o : Option Bool) (s : Bool) → mark_is o s ≡ false → mark_is o (not s) ≡ false → is_none o ≡ true
unmarked None s p q = refl
unmarked (Some true) true p q = absurd (cc)
unmarked (Some true) false p q = absurd (cc)
unmarked (Some false) true p q = absurd (cc)
unmarked (Some false) false p q = absurd (cc)

-- a boolean in range that no entry has is free
pub open_apart : (cs : ClauseMap) (log : List Step) (marks : Marks) (entries : List Entry) (l : Lit) → IsTrail cs log marks entries → l.var.0 < cs.bools → ((m : Lit) → Contains (lits_of entries) m → m.var.0 ≢ l.var.0)
    → is_open marks l ≡ true
open_apart cs log marks entries l trail within apart =
    and_both (in_range (length marks) l) (is_free marks l) (lt_is l.var.0 (length marks) (omega (arith, within, trail.len)))
    (unmarked (get_or marks l.var.0 None) l.sign (absent l refl) (absent (neg l) refl))
  where
    absent : (m : Lit) → m.var.0 ≡ l.var.0 → is_marked marks m ≡ false
    absent m same = trail.same m ∙ not_so (among (lits_of entries) m) (λ e. apart m (among_contained (lits_of entries) m e) same)

-- what stands before the cut stands before the place
pub cut_contained : (entries : List Entry) (cut place : ℕ) (m : Lit) → cut ≤ place → Contains (lits_of (take cut entries)) m → Contains (lits_of (take place entries)) m
cut_contained entries cut place m before h =
    contains_take cut (lits_of (take place entries)) m
    (subst (λ ls. Contains ls m) (ap (λ (es : List Entry). lits_of es) (sym (take-take cut place entries before)) ∙ sym (take-map (λ (k : Entry). k.lit) cut (take place entries))) h)

-- the entry at a place is turned, at the cut
pub trail_turned : (cs : ClauseMap) (log : List Step) (marks : Marks) (entries : List Entry) (flip : Flip) (d : Entry) (h : Hint) → flip.place < length entries → flip.cut ≤ flip.place → IsChain cs log entries → IsTurned cs log entries flip h
    → IsTrail cs log marks (take flip.cut entries) → IsTrail cs log (marked marks (neg (get_or entries flip.place d).lit)) (take flip.cut entries ++ turned (get_or entries flip.place d) h ∷ [])
trail_turned cs log marks entries flip d h within before chain turn trail =
    trail_push cs log marks (take flip.cut entries) trail (turned e h)
    (open_apart cs log marks (take flip.cut entries) (neg e.lit) trail (clause_range cs.bools (lits_of (take flip.place entries) ++ e.lit ∷ []) e.lit whole_clause (among_contained (lits_of (take flip.place entries) ++ e.lit ∷ []) e.lit (among_push (lits_of (take flip.place entries)) e.lit e.lit ∙ or_right (among (lits_of (take flip.place entries)) e.lit) (same_lit e.lit e.lit) (same_lit-self e.lit))))
    (λ m h2. clause_last cs.bools (lits_of (take flip.place entries)) e.lit m whole_clause (cut_contained entries flip.cut flip.place m before h2)))
    (λ k is. subst (IsForced cs.slots log (lits_of (take flip.cut entries)) (neg e.lit)) (same_Some h k is) (turn.forced d))
  where
    e : Entry
    e = get_or entries flip.place d

    whole_clause : is_clause cs.bools (lits_of (take flip.place entries) ++ e.lit ∷ []) ≡ true
    whole_clause =
        ap (is_clause cs.bools) (sym (lits_push (take flip.place entries) e) ∙ ap (λ (es : List Entry). lits_of es) (sym (take_more entries flip.place d within)) ∙ sym (take-map (λ (k : Entry). k.lit) (flip.place + 1) entries))
        ∙ clause_take cs.bools (flip.place + 1) (lits_of entries) chain.clause

-- what goes on from a list begins with it
pub front_of : {X : Type 0} (old new rest : List X) → new ≡ old ++ rest → new ≡ old ++ drop (length old) new
front_of old new rest e = e ∙ ap (λ xs. old ++ xs) (sym (drop-append_seam old rest) ∙ ap (drop (length old)) (sym e))

pub front_self : {X : Type 0} (old : List X) → old ≡ old ++ drop (length old) old
front_self {X} old = front_of old old [] (sym (append-nil old))

pub front_then : {X : Type 0} (old mid new : List X) → mid ≡ old ++ drop (length old) mid → new ≡ mid ++ drop (length mid) new → new ≡ old ++ drop (length old) new
front_then old mid new e f =
    front_of old new (drop (length old) mid ++ drop (length mid) new)
    (f ∙ ap (λ xs. xs ++ drop (length mid) new) e ∙ append_assoc old (drop (length old) mid) (drop (length mid) new))

pub extended_then : (cs : ClauseMap) (log : List Step) (old mid new : List Entry) (a b : Marks) (found : Option Hint) → IsExtended cs log old a mid None → IsExtended cs log mid b new found → IsExtended cs log old b new found
extended_then cs log old mid new a b found first next = record { trail = next.trail; front = front_then old mid new first.front next.front; refuted = next.refuted }

pub propagated_self : (cs : ClauseMap) (log : List Step) (marks : Marks) (entries : List Entry) → IsTrail cs log marks entries → IsPropagated cs log entries marks entries None
propagated_self cs log marks entries trail = record { extended = record { trail = trail; front = front_self entries; refuted = λ h is. absurd (none_at h is) }; forced = refl }

pub propagated_then : (cs : ClauseMap) (log : List Step) (old mid new : List Entry) (a b : Marks) (found : Option Hint) → IsPropagated cs log old a mid None → IsPropagated cs log mid b new found → IsPropagated cs log old b new found
propagated_then cs log old mid new a b found first next = record { extended = extended_then cs log old mid new a b found first.extended next.extended; forced = next.forced ∙ first.forced }

-- a clause that is seen to be false
pub look_false : (cs : ClauseMap) (log : List Step) (marks : Marks) (entries : List Entry) (h : Hint) (c : List Lit) → IsTrail cs log marks entries → clause_of cs.slots log h ≡ Some c → look_at marks c ≡ AllFalse
    → IsFalse cs.slots log (lits_of entries) h
look_false cs log marks entries h c trail named seen = record { clause = c; named = named; turned = λ m h2. sym (trail.same (neg m)) ∙ marked_false m h2 (is_marked marks (neg m)) refl }
  where
    none : (ls : List Lit) → finding_of ls ≡ AllFalse → ls ≡ []
    none [] e = refl
    none (x ∷ []) e = absurd (cc)
    none (x ∷ (y ∷ ys)) e = absurd (cc)

    marked_false : (m : Lit) → Contains c m → (b : Bool) → is_marked marks (neg m) ≡ b → is_marked marks (neg m) ≡ true
    marked_false m h2 true e = e
    marked_false m h2 false e = absurd (Contains-nil m (subst (λ ls. Contains ls m) (none (unmet marks c) seen) (in_filter (λ l. not (is_marked marks (neg l))) c m h2 (ap not e))))

-- a clause that is seen to force a literal
pub look_unit : (cs : ClauseMap) (log : List Step) (marks : Marks) (entries : List Entry) (h : Hint) (c : List Lit) (l : Lit) → IsTrail cs log marks entries → clause_of cs.slots log h ≡ Some c → look_at marks c ≡ Unit l
    → IsForced cs.slots log (lits_of entries) l h
look_unit cs log marks entries h c l trail named seen =
    record {
      clause = c;
      named = named;
      left = filter_same (λ m. not (among (lits_of entries) (neg m))) (λ m. not (is_marked marks (neg m))) c (λ m h2. ap not (sym (trail.same (neg m)))) ∙ one (unmet marks c) seen;
    }
  where
    one : (ls : List Lit) → finding_of ls ≡ Unit l → ls ≡ l ∷ []
    one [] e = absurd (cc)
    one (x ∷ []) e = ap (λ k. k ∷ []) (cc)
    one (x ∷ (y ∷ ys)) e = absurd (cc)

all_some : (ms : Marks) → list_all (λ o. eqb (cond (is_none o) 1 0) 0) ms ≡ true → list_all is_some ms ≡ true
all_some [] e = refl
all_some (None ∷ ms) e = absurd (cc)
all_some (Some b ∷ ms) e = all_some ms e

-- as many entries as booleans mark all of them
pub all_marked : (ms : Marks) → count_by is_none ms ≡ 0 → list_all is_some ms ≡ true
all_marked ms e = all_some ms (sym (sum_by-zero weight ms) ∙ ap (λ n. eqb n 0) e)
