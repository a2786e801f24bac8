-- The walk back keeps that the hints taken end well, and what it ends with follows by them.
use Rattle.std.proofs.Common.{◌≡◌, ◌≢◌, ◌⊎◌, ℕ, suc, ◌+◌, ◌<◌, Bool, true, false, not, ◌||◌, List, [], ◌∷◌, ◌++◌, length, filter, take, drop, get_or, reverse, unwrap_or, cond, Option, Some, None, IsSome, is_none, refl, arith, sym, ap, ap₂, subst, ◌∙◌, inl, inr, Contains}
use Rattle.std.proofs.lemmas.List.{append-nil, drop_all, length-set, length-replicate, map-append, take-map, take_more, take-append-drop, reverse-append}
use Rattle.std.proofs.Math.Seq.{take-length, drop-cons}
use Rattle.lv_base.specs.declared.ids.Lit.{Lit}
use Rattle.lv_clauses.specs.Literals.{neg, distinct, in_range, is_clause}
use Rattle.std.specs.List.{list_all}
use Rattle.lv_clauses.specs.ClauseMap.{ClauseMap}
use Rattle.lv_clauses.specs.Marks.{Marks, nothing, is_marked, marked, finding_of}
use Rattle.lv_clauses.proofs.LiteralLemmas.{neg_neg, and_right, and_both, or_right}
use Rattle.lv_clauses.proofs.MarkLemmas.{is_marked-nothing, is_marked-marked_cases}
use Rattle.lv_clauses.specs.declared.log.Hint.{Hint}
use Rattle.lv_clauses.specs.declared.log.Step.{Step}
use Rattle.lv_clauses.specs.Following.{clause_of, is_last, goes_on, goes_on_from, ends_well, denied, follows_by_hints}
use Rattle.lv_trail.specs.declared.trail.Entry.{Entry}
use Rattle.lv_trail.specs.declared.analysis.Flip.{Flip}
use Rattle.lv_trail.specs.Trail.{same_lit, among, lits_of, unforced, IsForced, IsFalse, IsChain}
use Rattle.lv_trail.specs.Analysis.{sees, seen_all, seen_by, denial, left_at, Covers, IsPending, IsForcedIfSeen, IsStopped, GoesPast, GivesWay, IsUnchanged, IsDerived, IsTurning}
use Rattle.lv_trail.proofs.ListLemmas.{same_lit-equal, same_lit-self, among_member, among_contained, among_push, clause_range, clause_take, clause_last, clause_sides}
use Rattle.lv_trail.proofs.TrailLemmas.{lits_push}
use Rattle.lv_trail.proofs.PartLemmas.{part_clause, part_member, unforced_part, distinct_behind}
use Rattle.lv_trail.proofs.SeenLemmas.{all_apart, sees_keeps, sees_member, seen_len, in_filter, from_filter, filter_same, filter_none, in_map, from_map, denial_clause, denied_len, denied_only, denied_has, marked_other, marked_self}

or_cases : (a b : Bool) → (a || b) ≡ true → (a ≡ true) ⊎ (b ≡ true)
or_cases true b e = inl refl
or_cases false b e = inr e

pub or_left : (a b : Bool) → a ≡ true → (a || b) ≡ true
or_left true b e = refl
or_left false b e = absurd (cc)

not_so : (b : Bool) → (b ≡ true → ⊥) → b ≡ false
not_so true never = absurd (never refl)
not_so false never = refl

pub among_both : (xs ys : List Entry) (l : Lit) → among (lits_of (xs ++ ys)) l ≡ (among (lits_of xs) l || among (lits_of ys) l)
among_both [] ys l = refl
among_both (x ∷ xs) ys l = ap (λ b. same_lit x.lit l || b) (among_both xs ys l) ∙ grouped (same_lit x.lit l) (among (lits_of xs) l) (among (lits_of ys) l)
  where
    grouped : (a b c : Bool) → (a || (b || c)) ≡ ((a || b) || c)
    grouped true b c = refl
    grouped false b c = refl

none_is_some : (r : Option Hint) → r ≡ None → IsSome r → ⊥
none_is_some None e f = absurd (cc)
none_is_some (Some h) e f = absurd (cc)

-- the entries without a reason
unforced_skip : (e : Entry) (es : List Entry) (h : Hint) → e.reason ≡ Some h → unforced (e ∷ es) ≡ unforced es
unforced_skip e es h f = ap (λ (r : Option Hint). cond (is_none r) (e ∷ unforced es) (unforced es)) f

unforced_head : (e : Entry) (es : List Entry) → e.reason ≡ None → among (lits_of (unforced (e ∷ es))) e.lit ≡ true
unforced_head e es f =
    ap (λ (r : Option Hint). among (lits_of (cond (is_none r) (e ∷ unforced es) (unforced es))) e.lit) f
    ∙ or_left (same_lit e.lit e.lit) (among (lits_of (unforced es)) e.lit) (same_lit-self e.lit)

unforced_tail : (e : Entry) (es : List Entry) (l : Lit) → among (lits_of (unforced es)) l ≡ true → among (lits_of (unforced (e ∷ es))) l ≡ true
unforced_tail e es l h = by_reason e.reason refl
  where
    by_reason : (r : Option Hint) → e.reason ≡ r → among (lits_of (unforced (e ∷ es))) l ≡ true
    by_reason None f = ap (λ (r : Option Hint). among (lits_of (cond (is_none r) (e ∷ unforced es) (unforced es))) l) f ∙ or_right (same_lit e.lit l) (among (lits_of (unforced es)) l) h
    by_reason (Some k) f = ap (λ (xs : List Entry). among (lits_of xs) l) (unforced_skip e es k f) ∙ h

unforced_among : (es : List Entry) (l : Lit) → among (lits_of (unforced es)) l ≡ true → among (lits_of es) l ≡ true
unforced_among es l e = among_member (lits_of es) l (part_member (lits_of (unforced es)) (lits_of es) (unforced_part es) l (among_contained (lits_of (unforced es)) l e))

module _ (cs : ClauseMap) (log : List Step) (entries : List Entry) (trail : IsChain cs log entries) where
  -- not both a literal and its negation are among the entries
  pub opposed : (l : Lit) → among (lits_of entries) l ≡ true → among (lits_of entries) (neg l) ≡ true → ⊥
  opposed l p q = clause_sides cs.bools (lits_of entries) l trail.clause (among_contained (lits_of entries) l p) (among_contained (lits_of entries) (neg l) q)

  -- a front of the entries is among them
  pub front_among : (at : ℕ) (l : Lit) → among (lits_of (take at entries)) l ≡ true → among (lits_of entries) l ≡ true
  front_among at l e =
      sym (ap (λ (es : List Entry). among (lits_of es) l) (take-append-drop at entries))
      ∙ among_both (take at entries) (drop at entries) l
      ∙ or_left (among (lits_of (take at entries)) l) (among (lits_of (drop at entries)) l) e

  pub in_range_of : (l : Lit) → among (lits_of entries) l ≡ true → l.var.0 < cs.bools
  in_range_of l e = clause_range cs.bools (lits_of entries) l trail.clause (among_contained (lits_of entries) l e)

  -- the false clause is the first hint
  pub pending_start : (h : Hint) (blank seen : List Bool) (hints : List Hint) → IsFalse cs.slots log (lits_of entries) h → length blank ≡ cs.bools → seen ≡ seen_by cs.slots log h blank → hints ≡ [] ++ h ∷ []
      → IsPending cs log entries (lits_of entries) seen hints
  pending_start h blank seen hints refuted size seen_is hints_is =
      record {
        len = ap (λ (s : List Bool). length s) seen_is ∙ seen_len blank (unwrap_or (clause_of cs.slots log h) []) ∙ size;
        ends = λ now size_now covers. ap (λ hs. ends_well cs.slots log (reverse hs) now) hints_is ∙ ends_here now covers;
      }
    where
      now_seen : seen ≡ seen_all blank refuted.clause
      now_seen = seen_is ∙ ap (λ (o : Option (List Lit)). seen_all blank (unwrap_or o [])) refuted.named

      turned : (now : Marks) → Covers seen (lits_of entries) entries now → (m : Lit) → Contains refuted.clause m → not (is_marked now (neg m)) ≡ false
      turned now covers m h2 =
          ap not
          (covers.needed (neg m) (refuted.turned m h2)
          (ap (λ s. sees s m) now_seen ∙ sees_member blank refuted.clause m h2 (subst (λ n. m.var.0 < n) (sym size) (in_range_of (neg m) (refuted.turned m h2)))))

      ends_here : (now : Marks) → Covers seen (lits_of entries) entries now → ends_well cs.slots log (h ∷ []) now ≡ true
      ends_here now covers =
          ap (goes_on_from now true (ends_well cs.slots log [])) refuted.named
          ∙ ap (λ ls. goes_on now true (ends_well cs.slots log []) (finding_of ls)) (filter_none (λ m. not (is_marked now (neg m))) refuted.clause (turned now covers))

  -- what wasn't seen may be left out
  pub pending_less : (more kept : List Lit) (seen : List Bool) (hints : List Hint) → ((l : Lit) → among more l ≡ true → sees seen l ≡ true → among kept l ≡ true) → IsPending cs log entries more seen hints → IsPending cs log entries kept seen hints
  pending_less more kept seen hints inside pending =
      record {
        len = pending.len;
        ends = λ now size covers. pending.ends now size (record { needed = λ l among_it seen_it. covers.needed l (inside l among_it seen_it) seen_it; within = covers.within });
      }

  module _ (at : ℕ) (d : Entry) (within : at < length entries) where
    pub more_among : (l : Lit) → among (lits_of (take (at + 1) entries)) l ≡ (among (lits_of (take at entries)) l || same_lit (get_or entries at d).lit l)
    more_among l =
        ap (λ (es : List Entry). among (lits_of es) l) (take_more entries at d within)
        ∙ ap (λ ls. among ls l) (lits_push (take at entries) (get_or entries at d))
        ∙ among_push (lits_of (take at entries)) (get_or entries at d).lit l

    pub here_among : among (lits_of entries) (get_or entries at d).lit ≡ true
    here_among = front_among (at + 1) (get_or entries at d).lit (more_among (get_or entries at d).lit ∙ or_right (among (lits_of (take at entries)) (get_or entries at d).lit) (same_lit (get_or entries at d).lit (get_or entries at d).lit) (same_lit-self (get_or entries at d).lit))

    -- the entry's boolean isn't that of one before it
    pub apart_before : (l : Lit) → among (lits_of (take at entries)) l ≡ true → l.var.0 ≢ (get_or entries at d).lit.var.0
    apart_before l before same =
        clause_last cs.bools (lits_of (take at entries)) (get_or entries at d).lit l
        (ap (is_clause cs.bools) (sym (lits_push (take at entries) (get_or entries at d)) ∙ ap (λ (es : List Entry). lits_of es) (sym (take_more entries at d within)) ∙ sym (take-map (λ (k : Entry). k.lit) (at + 1) entries)) ∙ clause_take cs.bools (at + 1) (lits_of entries) trail.clause)
        (among_contained (lits_of (take at entries)) l before) same

    -- nor that of one behind it
    behind : drop at entries ≡ get_or entries at d ∷ drop (at + 1) entries
    behind =
        let one_more : suc at ≡ at + 1 = omega arith in
        drop-cons entries at d within ∙ ap (λ k. get_or entries at d ∷ drop k entries) one_more

    apart_behind : (l : Lit) → among (lits_of (drop (at + 1) entries)) l ≡ true → l.var.0 ≢ (get_or entries at d).lit.var.0
    apart_behind l later =
        all_apart (get_or entries at d).lit (lits_of (drop (at + 1) entries)) l
        (distinct_behind (lits_of (take at entries)) (lits_of (drop (at + 1) entries)) (get_or entries at d).lit
        (and_right (list_all (in_range cs.bools) (lits_of (take at entries) ++ (get_or entries at d).lit ∷ lits_of (drop (at + 1) entries))) (distinct (lits_of (take at entries) ++ (get_or entries at d).lit ∷ lits_of (drop (at + 1) entries)))
        (ap (is_clause cs.bools) (sym (map-append (λ (k : Entry). k.lit) (take at entries) (get_or entries at d ∷ drop (at + 1) entries)) ∙ ap (λ (es : List Entry). lits_of (take at entries ++ es)) (sym behind) ∙ ap (λ (es : List Entry). lits_of es) (take-append-drop at entries)) ∙ trail.clause)))
        (among_contained (lits_of (drop (at + 1) entries)) l later)

    module _ (more kept : List Lit) (split : (l : Lit) → among more l ≡ true → (among kept l ≡ true) ⊎ (same_lit (get_or entries at d).lit l ≡ true)) (seen : List Bool) (hints : List Hint) (pending : IsPending cs log entries more seen hints) where
      -- an entry that wasn't seen is left out
      pending_unseen : sees seen (get_or entries at d).lit ≡ false → IsPending cs log entries kept seen hints
      pending_unseen unseen = pending_less more kept seen hints (λ l among_it seen_it. by_place l seen_it (split l among_it)) pending
        where
          by_place : (l : Lit) → sees seen l ≡ true → (among kept l ≡ true) ⊎ (same_lit (get_or entries at d).lit l ≡ true) → among kept l ≡ true
          by_place l seen_it (inl is) = is
          by_place l seen_it (inr here) = absurd (cc (ap (sees seen) (same_lit-equal (get_or entries at d).lit l here), unseen, seen_it))

      -- one that is kept stays
      pending_stays : among kept (get_or entries at d).lit ≡ true → IsPending cs log entries kept seen hints
      pending_stays stays = pending_less more kept seen hints (λ l among_it seen_it. by_place l (split l among_it)) pending
        where
          by_place : (l : Lit) → (among kept l ≡ true) ⊎ (same_lit (get_or entries at d).lit l ≡ true) → among kept l ≡ true
          by_place l (inl is) = is
          by_place l (inr here) = ap (among kept) (sym (same_lit-equal (get_or entries at d).lit l here)) ∙ stays

      -- an entry that was seen gives way to its reason
      pub pending_reason : (h : Hint) (now_seen : List Bool) (taken : List Hint) → (get_or entries at d).reason ≡ Some h → ((l : Lit) → among (lits_of (take at entries)) l ≡ true → among kept l ≡ true)
          → ((l : Lit) → among kept l ≡ true → l.var.0 ≢ (get_or entries at d).lit.var.0) → GivesWay cs.slots log h seen hints now_seen taken → IsPending cs log entries kept now_seen taken
      pending_reason h now_seen taken reason front apart way =
          record {
            len = ap (λ (s : List Bool). length s) way.seen ∙ seen_len seen (unwrap_or (clause_of cs.slots log h) []) ∙ pending.len;
            ends = λ now size covers. ap (λ hs. ends_well cs.slots log hs now) (ap reverse way.hints ∙ reverse-append hints (h ∷ [])) ∙ goes now size covers;
          }
        where
          forced : IsForced cs.slots log (lits_of (take at entries)) (get_or entries at d).lit h
          forced = trail.forced at d h within reason

          grown : now_seen ≡ seen_all seen forced.clause
          grown = way.seen ∙ ap (λ (o : Option (List Lit)). seen_all seen (unwrap_or o [])) forced.named

          still : (l : Lit) → sees seen l ≡ true → sees now_seen l ≡ true
          still l e = ap (λ s. sees s l) grown ∙ sees_keeps seen forced.clause l e

          same_left : (now : Marks) → Covers now_seen kept entries now → (m : Lit) → Contains forced.clause m → not (is_marked now (neg m)) ≡ not (among (lits_of (take at entries)) (neg m))
          same_left now covers m h2 = by_truth (among (lits_of (take at entries)) (neg m)) refl
            where
              is_left : among (lits_of (take at entries)) (neg m) ≡ false → m ≡ (get_or entries at d).lit
              is_left e =
                  let listed : Contains ((get_or entries at d).lit ∷ []) m = subst (λ ls. Contains ls m) forced.left (in_filter (λ l. not (among (lits_of (take at entries)) (neg l))) forced.clause m h2 (ap not e)) in
                  sym (same_lit-equal (get_or entries at d).lit m (only (same_lit (get_or entries at d).lit m) (among_member ((get_or entries at d).lit ∷ []) m listed)))
                where
                  only : (b : Bool) → (b || false) ≡ true → b ≡ true
                  only true p = refl
                  only false p = p

              by_truth : (b : Bool) → among (lits_of (take at entries)) (neg m) ≡ b → not (is_marked now (neg m)) ≡ not (among (lits_of (take at entries)) (neg m))
              by_truth true e =
                  ap not
                  (covers.needed (neg m) (front (neg m) e) (ap (λ s. sees s m) grown ∙ sees_member seen forced.clause m h2 (subst (λ n. m.var.0 < n) (sym pending.len) (in_range_of (neg m) (front_among at (neg m) e))))
                  ∙ sym e)
              by_truth false e =
                  ap not
                  (not_so (is_marked now (neg m)) (λ f. opposed (get_or entries at d).lit here_among (covers.within (neg (get_or entries at d).lit) (subst (λ k. is_marked now (neg k) ≡ true) (is_left e) f)))
                  ∙ sym e)

          covers_then : (now : Marks) → length now ≡ cs.bools → Covers now_seen kept entries now → Covers seen more entries (marked now (get_or entries at d).lit)
          covers_then now size covers =
              record {
                needed = λ l among_it seen_it. by_place l seen_it (split l among_it);
                within = λ l e. by_mark l (is_marked-marked_cases now (get_or entries at d).lit l e);
              }
            where
              by_place : (l : Lit) → sees seen l ≡ true → (among kept l ≡ true) ⊎ (same_lit (get_or entries at d).lit l ≡ true) → is_marked (marked now (get_or entries at d).lit) l ≡ true
              by_place l seen_it (inl before) = marked_other now (get_or entries at d).lit l (apart l before) (covers.needed l before (still l seen_it))
              by_place l seen_it (inr here) =
                  subst (λ k. is_marked (marked now (get_or entries at d).lit) k ≡ true) (same_lit-equal (get_or entries at d).lit l here)
                  (marked_self now (get_or entries at d).lit (subst (λ n. (get_or entries at d).lit.var.0 < n) (sym size) (in_range_of (get_or entries at d).lit here_among)))

              by_mark : (l : Lit) → (l ≡ (get_or entries at d).lit) ⊎ (is_marked now l ≡ true) → among (lits_of entries) l ≡ true
              by_mark l (inl same) = ap (among (lits_of entries)) same ∙ here_among
              by_mark l (inr was) = covers.within l was

          goes : (now : Marks) → length now ≡ cs.bools → Covers now_seen kept entries now → ends_well cs.slots log (h ∷ reverse hints) now ≡ true
          goes now size covers =
              ap (goes_on_from now (is_last (reverse hints)) (ends_well cs.slots log (reverse hints))) forced.named
              ∙ ap (λ ls. goes_on now (is_last (reverse hints)) (ends_well cs.slots log (reverse hints)) (finding_of ls))
              (filter_same (λ m. not (is_marked now (neg m))) (λ m. not (among (lits_of (take at entries)) (neg m))) forced.clause (same_left now covers) ∙ forced.left)
              ∙ pending.ends (marked now (get_or entries at d).lit) (length-set now (get_or entries at d).lit.var.0 (Some (get_or entries at d).lit.sign) ∙ size) (covers_then now size covers)

      pending_past : (now_seen : List Bool) (taken : List Hint) → ((l : Lit) → among (lits_of (take at entries)) l ≡ true → among kept l ≡ true)
          → ((h : Hint) → (get_or entries at d).reason ≡ Some h → (l : Lit) → among kept l ≡ true → l.var.0 ≢ (get_or entries at d).lit.var.0)
          → ((get_or entries at d).reason ≡ None → sees seen (get_or entries at d).lit ≡ true → among kept (get_or entries at d).lit ≡ true)
          → GoesPast cs.slots log (sees seen (get_or entries at d).lit) (get_or entries at d).reason seen hints now_seen taken → IsPending cs log entries kept now_seen taken
      pending_past now_seen taken front apart stays past = by_sight (sees seen (get_or entries at d).lit) refl (get_or entries at d).reason refl past
        where
          unchanged : IsPending cs log entries kept seen hints → IsUnchanged seen hints now_seen taken → IsPending cs log entries kept now_seen taken
          unchanged is same = subst (λ s. IsPending cs log entries kept s taken) (sym same.seen) (subst (IsPending cs log entries kept seen) (sym same.hints) is)

          by_sight : (b : Bool) → sees seen (get_or entries at d).lit ≡ b → (r : Option Hint) → (get_or entries at d).reason ≡ r → GoesPast cs.slots log b r seen hints now_seen taken → IsPending cs log entries kept now_seen taken
          by_sight false e r f same = unchanged (pending_unseen e) same
          by_sight true e None f same = unchanged (pending_stays (stays f e)) same
          by_sight true e (Some h) f way = pending_reason h now_seen taken f front (apart h f) way

    -- a step of the walk to a choice
    pub pending_walk : (seen : List Bool) (hints : List Hint) (now_seen : List Bool) (taken : List Hint) → IsPending cs log entries (lits_of (take (at + 1) entries)) seen hints → IsForcedIfSeen seen entries at
        → GoesPast cs.slots log (sees seen (get_or entries at d).lit) (get_or entries at d).reason seen hints now_seen taken → IsPending cs log entries (lits_of (take at entries)) now_seen taken
    pending_walk seen hints now_seen taken pending reasoned past =
        pending_past (lits_of (take (at + 1) entries)) (lits_of (take at entries))
        (λ l among_it. or_cases (among (lits_of (take at entries)) l) (same_lit (get_or entries at d).lit l) (sym (more_among l) ∙ among_it)) seen hints pending now_seen taken
        (λ l e. e) (λ h f. apart_before) (λ f e. absurd (none_is_some (get_or entries at d).reason f (reasoned d e))) past

    -- a step of the walk through the front
    pub pending_back : (seen : List Bool) (hints : List Hint) (now_seen : List Bool) (taken : List Hint) → IsPending cs log entries (lits_of (left_at (at + 1) entries)) seen hints
        → GoesPast cs.slots log (sees seen (get_or entries at d).lit) (get_or entries at d).reason seen hints now_seen taken → IsPending cs log entries (lits_of (left_at at entries)) now_seen taken
    pending_back seen hints now_seen taken pending past =
        pending_past (lits_of (left_at (at + 1) entries)) (lits_of (left_at at entries)) split seen hints pending now_seen taken in_front apart (λ f e. in_behind (get_or entries at d).lit (head_among f)) past
      where
        in_front : (l : Lit) → among (lits_of (take at entries)) l ≡ true → among (lits_of (left_at at entries)) l ≡ true
        in_front l e = among_both (take at entries) (unforced (drop at entries)) l ∙ or_left (among (lits_of (take at entries)) l) (among (lits_of (unforced (drop at entries))) l) e

        in_behind : (l : Lit) → among (lits_of (unforced (drop at entries))) l ≡ true → among (lits_of (left_at at entries)) l ≡ true
        in_behind l e = among_both (take at entries) (unforced (drop at entries)) l ∙ or_right (among (lits_of (take at entries)) l) (among (lits_of (unforced (drop at entries))) l) e

        head_among : (get_or entries at d).reason ≡ None → among (lits_of (unforced (drop at entries))) (get_or entries at d).lit ≡ true
        head_among f = ap (λ (es : List Entry). among (lits_of (unforced es)) (get_or entries at d).lit) behind ∙ unforced_head (get_or entries at d) (drop (at + 1) entries) f

        split : (l : Lit) → among (lits_of (left_at (at + 1) entries)) l ≡ true → (among (lits_of (left_at at entries)) l ≡ true) ⊎ (same_lit (get_or entries at d).lit l ≡ true)
        split l e = by_side (or_cases (among (lits_of (take (at + 1) entries)) l) (among (lits_of (unforced (drop (at + 1) entries))) l) (sym (among_both (take (at + 1) entries) (unforced (drop (at + 1) entries)) l) ∙ e))
          where
            by_place : (among (lits_of (take at entries)) l ≡ true) ⊎ (same_lit (get_or entries at d).lit l ≡ true) → (among (lits_of (left_at at entries)) l ≡ true) ⊎ (same_lit (get_or entries at d).lit l ≡ true)
            by_place (inl before) = inl (in_front l before)
            by_place (inr here) = inr here

            by_side : (among (lits_of (take (at + 1) entries)) l ≡ true) ⊎ (among (lits_of (unforced (drop (at + 1) entries))) l ≡ true) → (among (lits_of (left_at at entries)) l ≡ true) ⊎ (same_lit (get_or entries at d).lit l ≡ true)
            by_side (inl front) = by_place (or_cases (among (lits_of (take at entries)) l) (same_lit (get_or entries at d).lit l) (sym (more_among l) ∙ front))
            by_side (inr later) = inl (in_behind l (ap (λ (es : List Entry). among (lits_of (unforced es)) l) behind ∙ unforced_tail (get_or entries at d) (drop (at + 1) entries) l later))

        apart : (h : Hint) → (get_or entries at d).reason ≡ Some h → (l : Lit) → among (lits_of (left_at at entries)) l ≡ true → l.var.0 ≢ (get_or entries at d).lit.var.0
        apart h f l e = by_side (or_cases (among (lits_of (take at entries)) l) (among (lits_of (unforced (drop at entries))) l) (sym (among_both (take at entries) (unforced (drop at entries)) l) ∙ e))
          where
            by_side : (among (lits_of (take at entries)) l ≡ true) ⊎ (among (lits_of (unforced (drop at entries))) l ≡ true) → l.var.0 ≢ (get_or entries at d).lit.var.0
            by_side (inl front) = apart_before l front
            by_side (inr later) =
                apart_behind l
                (unforced_among (drop (at + 1) entries) l
                (sym (ap (λ (es : List Entry). among (lits_of (unforced es)) l) behind ∙ ap (λ (es : List Entry). among (lits_of es) l) (unforced_skip (get_or entries at d) (drop (at + 1) entries) h f)) ∙ later))

  -- from the floor on only the front counts
  pub pending_front : (floor : ℕ) (seen : List Bool) (hints : List Hint) → IsPending cs log entries (lits_of (take floor entries)) seen hints → IsPending cs log (take floor entries) (lits_of (take floor entries)) seen hints
  pending_front floor seen hints pending =
      record {
        len = pending.len;
        ends = λ now size covers. pending.ends now size (record { needed = covers.needed; within = λ l e. front_among floor l (covers.within l e) });
      }

  -- all entries are left at their end, and those without a reason at their start
  pub pending_last : (at : ℕ) (seen : List Bool) (hints : List Hint) → at ≡ length entries → IsPending cs log entries (lits_of entries) seen hints → IsPending cs log entries (lits_of (left_at at entries)) seen hints
  pending_last at seen hints end pending =
      subst (λ (es : List Entry). IsPending cs log entries (lits_of es) seen hints)
      (sym (ap (λ k. left_at k entries) end ∙ ap₂ (λ (xs ys : List Entry). xs ++ unforced ys) (take-length entries) (drop_all (length entries) entries (omega arith)) ∙ append-nil entries)) pending

  pub pending_first : (at : ℕ) (seen : List Bool) (hints : List Hint) → at ≡ 0 → IsPending cs log entries (lits_of (left_at at entries)) seen hints → IsPending cs log entries (lits_of (unforced entries)) seen hints
  pending_first at seen hints start pending = subst (λ k. IsPending cs log entries (lits_of (left_at k entries)) seen hints) start pending

  -- what is left follows by the hints
  module _ (kept : List Entry) (kept_clause : is_clause cs.bools (lits_of kept) ≡ true) (inside : (l : Lit) → among (lits_of kept) l ≡ true → among (lits_of entries) l ≡ true) (seen : List Bool) (hints : List Hint)
      (pending : IsPending cs log entries (lits_of kept) seen hints) where
    pending_follows : follows_by_hints cs log (record { clause = denial seen kept; hints = reverse hints }) ≡ true
    pending_follows =
        and_both (is_clause cs.bools (denial seen kept)) (ends_well cs.slots log (reverse hints) (denied (nothing cs.bools) (denial seen kept))) clause_here
        (pending.ends (denied (nothing cs.bools) (denial seen kept)) (denied_len (nothing cs.bools) (denial seen kept) ∙ length-replicate {A = Option Bool} cs.bools None) covers)
      where
        clause_here : is_clause cs.bools (denial seen kept) ≡ true
        clause_here = denial_clause cs.bools (sees seen) (lits_of kept) kept_clause

        by_source : (l : Lit) → (is_marked (nothing cs.bools) l ≡ true) ⊎ Contains (denial seen kept) (neg l) → among (lits_of entries) l ≡ true
        by_source l (inl never) = absurd (cc (is_marked-nothing cs.bools l, never))
        by_source l (inr there) =
            inside l
            (ap (among (lits_of kept)) (sym (neg_neg l))
            ∙ among_member (lits_of kept) (neg (neg l)) (from_filter (sees seen) (lits_of kept) (neg (neg l)) (from_map (filter (sees seen) (lits_of kept)) (neg l) there)))

        covers : Covers seen (lits_of kept) entries (denied (nothing cs.bools) (denial seen kept))
        covers =
            record {
              needed =
                  λ l among_it seen_it.
                  let there : Contains (denial seen kept) (neg l) = in_map (filter (sees seen) (lits_of kept)) l (in_filter (sees seen) (lits_of kept) l (among_contained (lits_of kept) l among_it) seen_it) in
                  subst (λ k. is_marked (denied (nothing cs.bools) (denial seen kept)) k ≡ true) (neg_neg l)
                  (denied_has (nothing cs.bools) (denial seen kept) (neg l) (and_right (list_all (in_range cs.bools) (denial seen kept)) (distinct (denial seen kept)) clause_here) there
                  (subst (λ n. l.var.0 < n) (sym (length-replicate {A = Option Bool} cs.bools None)) (in_range_of l (inside l among_it))));
              within = λ l e. by_source l (denied_only (nothing cs.bools) (denial seen kept) l e);
            }

    made : (new : List Step) (clause : List Lit) → clause ≡ denial seen kept → new ≡ log ++ record { clause = clause; hints = reverse hints } ∷ [] → IsDerived cs log new kept
    made new clause is added =
        record {
          step = record { clause = denial seen kept; hints = reverse hints };
          seen = seen;
          added = added ∙ ap (λ (c : List Lit). log ++ record { clause = c; hints = reverse hints } ∷ []) is;
          clause = refl;
          follows = pending_follows;
        }

  pub derived_front : (at : ℕ) (seen : List Bool) (hints : List Hint) (new : List Step) (clause : List Lit) → IsPending cs log entries (lits_of (take at entries)) seen hints → clause ≡ denial seen (take at entries)
      → new ≡ log ++ record { clause = clause; hints = reverse hints } ∷ [] → IsDerived cs log new (take at entries)
  derived_front at seen hints new clause pending is added =
      made (take at entries) (ap (is_clause cs.bools) (sym (take-map (λ (k : Entry). k.lit) at entries)) ∙ clause_take cs.bools at (lits_of entries) trail.clause) (front_among at) seen hints pending new clause is added

  pub derived_unforced : (seen : List Bool) (hints : List Hint) (new : List Step) (clause : List Lit) → IsPending cs log entries (lits_of (unforced entries)) seen hints → clause ≡ denial seen (unforced entries)
      → new ≡ log ++ record { clause = clause; hints = reverse hints } ∷ [] → IsDerived cs log new (unforced entries)
  derived_unforced seen hints new clause pending is added =
      made (unforced entries) (part_clause cs.bools (lits_of (unforced entries)) (lits_of entries) (unforced_part entries) trail.clause) (unforced_among entries) seen hints pending new clause is added

  pub turns : (floor : ℕ) (flip : Flip) (seen : List Bool) (hints : List Hint) (new : List Step) (clause : List Lit) → IsStopped cs log entries floor seen hints flip → clause ≡ denial seen (take (flip.place + 1) entries)
      → new ≡ log ++ record { clause = clause; hints = reverse hints } ∷ [] → IsTurning cs log new floor entries flip
  unfolding derived_front made
  turns floor flip seen hints new clause stopped is added =
      record {
        derived = derived_front (flip.place + 1) seen hints new clause stopped.pending is added;
        within = stopped.within;
        cut = stopped.cut;
      }
