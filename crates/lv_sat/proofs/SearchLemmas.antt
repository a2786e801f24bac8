-- What the search keeps at each turn, and what it shows at its ends.
use Rattle.std.proofs.Common.{◌≡◌, ℕ, suc, zero, ◌+◌, ◌-◌, ◌<◌, ◌≤◌, Bool, true, false, not, List, [], ◌∷◌, ◌++◌, length, map, filter, take, drop, get_or, Option, Some, None, All, IfSome, slice_get, option_map, cond, if◌then◌else◌, append_assoc, refl, sym, ap, ap₂, subst, ◌∙◌, arith, Contains}
use Rattle.std.proofs.lemmas.List.{append-nil, length-append, take-append-le, take-map, take-take, take_more, map-append, length-take, length-take-le}
use Rattle.std.proofs.lemmas.List.Elements.{filter-append}
use Rattle.std.proofs.Math.Seq.{get_or-append_seam, take-length}
use Rattle.lv_base.specs.declared.ids.Lit.{Lit}
use Rattle.lv_clauses.specs.Literals.{neg, lit_holds, is_clause}
use Rattle.lv_clauses.specs.ClauseMap.{ClauseMap, Slots, satisfies}
use Rattle.lv_clauses.specs.Marks.{Marks, marked}
use Rattle.lv_clauses.proofs.LiteralLemmas.{neg_neg, any_member, all_member, lit_or_neg}
use Rattle.lv_clauses.specs.declared.log.Hint.{Hint}
use Rattle.lv_clauses.specs.declared.log.Hint.TheVariants.{Given, Earlier}
use Rattle.lv_clauses.specs.declared.log.Step.{Step}
use Rattle.lv_clauses.specs.Following.{clause_of, follows_by_hints, first_bad_after, first_bad_step, IsImplied}
use Rattle.lv_clauses.proofs.SoundLemmas.{checked}
use Rattle.lv_trail.specs.declared.trail.Entry.{Entry}
use Rattle.lv_sat.specs.Answers.{IsModel, IsSatisfied, IsSublist, IsRefutation, last_clause, nothing as no_literals, left_out, taken}
use Rattle.lv_sat.specs.Front.{AreFound, AreValues, IsFront, IsRefuted}
use Rattle.lv_trail.specs.Trail.{among, lits_of, unforced, left_of, is_open, IsForced, IsChain, IsTrail, IsTurned, IsExtended, IsPropagated, turned}
use Rattle.lv_sat.specs.Search.{IsSearch, IsGrown, IsReached, Reaches}
use Rattle.lv_last_values.specs.Values.{KeepMarks}
use Rattle.lv_sat.specs.declared.search.Reached.{Reached}
use Rattle.lv_sat.specs.declared.search.Reached.TheVariants.{Values, False}
use Rattle.lv_trail.specs.Analysis.{sees, denial, IsDerived, IsTurning, Derives}
use Rattle.lv_sat.specs.Measure.{above}
use Rattle.lv_trail.proofs.ListLemmas.{among_member, among_contained, all_from, clause_take, clause_last}
use Rattle.lv_trail.proofs.SeenLemmas.{from_filter, filter_none, from_map}
use Rattle.lv_trail.specs.declared.analysis.Flip.{Flip}
use Rattle.lv_trail.proofs.TrailLemmas.{lits_push, cut_contained, trail_push, front_of, front_then, none_at, not_so}
use Rattle.lv_trail.proofs.PartLemmas.{part_then, part_self, part_member}
use Rattle.lv_trail.proofs.AnalysisLemmas.{front_among}
use Rattle.lv_sat.proofs.MeasureLemmas.{above_longer, above_turned}

-- a log that grows keeps its steps
got_more : {X : Type 0} (xs ys : List X) (k : ℕ) (x : X) → slice_get xs k ≡ Some x → slice_get (xs ++ ys) k ≡ Some x
got_more [] ys k x e = absurd (cc)
got_more (y ∷ xs) ys zero x e = e
got_more (y ∷ xs) ys (suc k) x e = got_more xs ys k x e

clause_kept : (slots : Slots) (log : List Step) (s : Step) (h : Hint) (c : List Lit) → clause_of slots log h ≡ Some c → clause_of slots (log ++ s ∷ []) h ≡ Some c
clause_kept slots log s (Given id) c e = e
clause_kept slots log s (Earlier place) c e = by_step (slice_get log place) refl
  where
    by_step : (o : Option Step) → slice_get log place ≡ o → option_map (λ (t : Step). t.clause) (slice_get (log ++ s ∷ []) place) ≡ Some c
    by_step None at = absurd (cc (ap (option_map (λ (t : Step). t.clause)) at, e))
    by_step (Some t) at = ap (option_map (λ (k : Step). k.clause)) (got_more log (s ∷ []) place t at) ∙ sym (ap (option_map (λ (k : Step). k.clause)) at) ∙ e

pub trail_grows : (cs : ClauseMap) (log : List Step) (s : Step) (marks : Marks) (entries : List Entry) → IsTrail cs log marks entries → IsTrail cs (log ++ s ∷ []) marks entries
trail_grows cs log s marks entries trail =
    record {
      len = trail.len;
      same = trail.same;
      room = trail.room;
      chain =
          record {
            clause = trail.chain.clause;
            forced =
                λ place d h within is.
                let was : IsForced cs.slots log (lits_of (take place entries)) (get_or entries place d).lit h = trail.chain.forced place d h within is in
                record { clause = was.clause; named = clause_kept cs.slots log s h was.clause was.named; left = was.left };
          };
    }

-- a step that follows keeps a log valid
valid_after : (cs : ClauseMap) (earlier steps : List Step) (s : Step) → first_bad_after cs earlier steps ≡ None → follows_by_hints cs (earlier ++ steps) s ≡ true → first_bad_after cs earlier (steps ++ s ∷ []) ≡ None
valid_after cs earlier [] s e follows = ap (λ b. if b then None else Some (length earlier)) (ap (λ (es : List Step). follows_by_hints cs es s) (sym (append-nil earlier)) ∙ follows)
valid_after cs earlier (t ∷ ts) s e follows = by_step (follows_by_hints cs earlier t) refl (λ rest more. valid_after cs (earlier ++ t ∷ []) ts s rest more)
  where
    by_step : (b : Bool) → follows_by_hints cs earlier t ≡ b
        → (first_bad_after cs (earlier ++ t ∷ []) ts ≡ None → follows_by_hints cs ((earlier ++ t ∷ []) ++ ts) s ≡ true → first_bad_after cs (earlier ++ t ∷ []) (ts ++ s ∷ []) ≡ None)
        → (if follows_by_hints cs earlier t then first_bad_after cs (earlier ++ t ∷ []) (ts ++ s ∷ []) else Some (length earlier)) ≡ None
    by_step true f rest =
        ap (λ b. if b then first_bad_after cs (earlier ++ t ∷ []) (ts ++ s ∷ []) else Some (length earlier)) f
        ∙ rest (sym (ap (λ b. if b then first_bad_after cs (earlier ++ t ∷ []) ts else Some (length earlier)) f) ∙ e) (ap (λ (es : List Step). follows_by_hints cs es s) (append_assoc earlier (t ∷ []) ts) ∙ follows)
    by_step false f rest = absurd (cc (ap (λ b. if b then first_bad_after cs (earlier ++ t ∷ []) ts else Some (length earlier)) f, e))

pub valid_push : (cs : ClauseMap) (log : List Step) (s : Step) → first_bad_step cs log ≡ None → follows_by_hints cs log s ≡ true → first_bad_step cs (log ++ s ∷ []) ≡ None
valid_push cs log s e follows = valid_after cs [] log s e follows

-- a choice more
pub extended_choice : (cs : ClauseMap) (log : List Step) (old mid entries more : List Entry) (a marks now : Marks) (found : Option Hint) (l : Lit) → IsExtended cs log old a mid None → IsPropagated cs log mid marks entries found
    → is_open marks l ≡ true → now ≡ marked marks l → more ≡ entries ++ record { lit = l; reason = None } ∷ [] → IsExtended cs log old now more None
extended_choice cs log old mid entries more a marks now found l first next free now_is grown =
    record {
      trail =
          subst (λ m. IsTrail cs log m more) (sym now_is)
          (subst (IsTrail cs log (marked marks l)) (sym grown) (trail_push cs log marks entries next.extended.trail (record { lit = l; reason = None }) free (λ h is. absurd (none_at h is))));
      front = front_then old entries more (front_then old mid entries first.front next.extended.front) (front_of entries more (record { lit = l; reason = None } ∷ []) grown);
      refuted = λ h is. absurd (none_at h is);
    }

pub reached_false : (cs : ClauseMap) (log : List Step) (old mid entries : List Entry) (a marks : Marks) (h : Hint) → IsExtended cs log old a mid None → IsPropagated cs log mid marks entries (Some h) → IsReached cs log old marks entries (False h)
reached_false cs log old mid entries a marks h first next = record { trail = next.extended.trail; front = front_then old mid entries first.front next.extended.front; reaches = next.extended.refuted h refl }

pub reached_by : (cs : ClauseMap) (log : List Step) (old mid entries : List Entry) (a marks : Marks) (found : Option Hint) (reached : Reached) → IsExtended cs log old a mid None → IsPropagated cs log mid marks entries found
    → Reaches cs log marks entries reached → IsReached cs log old marks entries reached
reached_by cs log old mid entries a marks found reached first next reaches = record { trail = next.extended.trail; front = front_then old mid entries first.front next.extended.front; reaches = reaches }

-- what a search leaves is cut back to what it began with, by the clauses given alone
pub trail_back : (cs : ClauseMap) (log : List Step) (before marks after : Marks) (start entries left : List Entry) → IsTrail cs log before start → log ≡ [] → IsGrown cs start marks entries → left ≡ take (length start) entries
    → ((sets : ClauseMap) (steps : List Step) → IsTrail sets steps marks entries → IsTrail sets steps after left) → IsTrail cs [] after left
trail_back cs log before marks after start entries left here blank grown is cut =
    let cut_here : IsTrail cs grown.log after left = cut cs grown.log grown.trail in
    record {
      len = cut_here.len;
      same = cut_here.same;
      room = cut_here.room;
      chain = subst (λ (es : List Entry). IsChain cs [] es) (sym (is ∙ grown.begins)) (subst (λ (steps : List Step). IsChain cs steps start) blank here.chain);
    }

neg_twice : (ls : List Lit) → map neg (map neg ls) ≡ ls
neg_twice [] = refl
neg_twice (l ∷ ls) = ap₂ (λ k ks. k ∷ ks) (neg_neg l) (neg_twice ls)

part_of : (p : Lit → Bool) (ls : List Lit) → IsSublist (filter p ls) ls
part_of p [] = no_literals
part_of p (l ∷ ls) = by_value (p l) refl (part_of p ls)
  where
    by_value : (b : Bool) → p l ≡ b → IsSublist (filter p ls) ls → IsSublist (cond (p l) (l ∷ filter p ls) (filter p ls)) (l ∷ ls)
    by_value true e rest = rw e (taken l rest)
    by_value false e rest = rw e (left_out l rest)

got_seam : {X : Type 0} (xs : List X) (x : X) → slice_get (xs ++ x ∷ []) (length xs) ≡ Some x
got_seam [] x = refl
got_seam (y ∷ xs) x = got_seam xs x

got_last : {X : Type 0} (xs : List X) (x : X) → slice_get (xs ++ x ∷ []) (length (xs ++ x ∷ []) - 1) ≡ Some x
got_last xs x = ap (slice_get (xs ++ x ∷ [])) (omega (arith, length-append xs (x ∷ []))) ∙ got_seam xs x

long_enough : {X : Type 0} (start entries : List X) → take (length start) entries ≡ start → length start ≤ length entries
long_enough start entries e = grind (arith, ap length e, length-take (length start) entries)

-- a clause of negations of assumptions refutes
pub refutes : (cs : ClauseMap) (assumptions core : List Lit) (log : List Step) → IsRefuted cs assumptions log → IfSome (last_clause log) (λ clause. core ≡ map neg clause) → IsRefutation cs assumptions core log
refutes cs assumptions core log here told =
    record {
      part = subst (λ ls. IsSublist ls assumptions) (sym core_is) (part_then (filter (sees derived.seen) (lits_of here.kept)) (lits_of here.kept) assumptions (part_of (sees derived.seen) (lits_of here.kept)) here.part);
      valid = valid_new;
      ends = last_is ∙ ap Some (derived.clause ∙ sym (ap (map neg) core_is));
      none = λ values model. false_for values model (any_member (lit_holds values) derived.step.clause (implied.holds values model.all_clauses model.len));
    }
  where
    derived : IsDerived cs here.earlier log here.kept
    derived = here.derived

    last_is : last_clause log ≡ Some derived.step.clause
    last_is =
        ap (λ (steps : List Step). last_clause steps) derived.added
        ∙ ap (option_map (λ (t : Step). t.clause)) (got_last here.earlier derived.step)

    core_is : core ≡ filter (sees derived.seen) (lits_of here.kept)
    core_is =
        subst (λ (o : Option (List Lit)). IfSome o (λ clause. core ≡ map neg clause)) last_is told
        ∙ ap (map neg) derived.clause
        ∙ neg_twice (filter (sees derived.seen) (lits_of here.kept))

    valid_new : first_bad_step cs log ≡ None
    valid_new = ap (first_bad_step cs) derived.added ∙ valid_push cs here.earlier derived.step here.valid derived.follows

    all_implied : All (IsImplied cs) (here.earlier ++ derived.step ∷ [])
    all_implied =
        subst (All (IsImplied cs)) (ap (λ (steps : List Step). take (length steps) steps) derived.added ∙ take-length (here.earlier ++ derived.step ∷ [])) (checked cs log None (sym valid_new))

    implied : IsImplied cs derived.step
    implied = subst (IsImplied cs) (get_or-append_seam here.earlier derived.step [] derived.step) (all_implied (length here.earlier) derived.step (omega (arith, length-append here.earlier (derived.step ∷ []))))

    false_for : (values : List Bool) → IsModel cs assumptions values → (m : Lit) × Contains derived.step.clause m × (lit_holds values m ≡ true) → ⊥
    false_for values model found =
        lit_or_neg values found.0 found.2
        (all_member (lit_holds values) assumptions (neg found.0) model.all_assumptions
        (part_member (lits_of here.kept) assumptions here.part (neg found.0)
        (from_filter (sees derived.seen) (lits_of here.kept) (neg found.0) (from_map (filter (sees derived.seen) (lits_of here.kept)) found.0 (subst (λ ls. Contains ls found.0) derived.clause found.1)))))

-- values that make the front true make the assumptions true
pub satisfied_by : (cs : ClauseMap) (assumptions : List Lit) (start : List Entry) (log : List Step) (values : List Bool) → IsFront assumptions start → AreFound cs start log values → IsSatisfied cs assumptions values log
satisfied_by cs assumptions start log values front found =
    record {
      model =
          record {
            len = found.hold.len;
            all_clauses = found.hold.all_clauses;
            all_assumptions = all_from (lit_holds values) assumptions (λ l h. found.hold.all_entries l (all_member (among (lits_of start)) assumptions l front.all_true h));
          };
      valid = found.valid;
    }

-- what is refuted of the front is of assumptions
pub refuted_of : (cs : ClauseMap) (assumptions : List Lit) (start : List Entry) (log : List Step) → IsFront assumptions start → IsRefuted cs (lits_of (unforced start)) log → IsRefuted cs assumptions log
refuted_of cs assumptions start log front here =
    record { earlier = here.earlier; kept = here.kept; valid = here.valid; derived = here.derived; part = part_then (lits_of here.kept) (lits_of (unforced start)) assumptions here.part front.part }

module _ (cs : ClauseMap) (start : List Entry) (log : List Step) where
  pub search_extended : (a marks : Marks) (old entries : List Entry) → IsSearch cs start log a old → IsTrail cs log marks entries → entries ≡ old ++ drop (length old) entries → IsSearch cs start log marks entries
  search_extended a marks old entries before trail front =
      record {
        trail = trail;
        begins = ap (take (length start)) front ∙ take-append-le (length start) old (drop (length old) entries) (long_enough start old before.begins) ∙ before.begins;
        valid = before.valid;
      }

  pub floor_fits : (marks : Marks) (entries : List Entry) → IsSearch cs start log marks entries → length start ≤ length entries
  floor_fits marks entries here = long_enough start entries here.begins

  pub values_found : (marks : Marks) (entries : List Entry) (values : List Bool) → IsSearch cs start log marks entries → KeepMarks marks values → satisfies values cs.slots ≡ true → AreValues cs start values
  values_found marks entries values here keeps all_true =
      record {
        len = keeps.len ∙ here.trail.len;
        all_clauses = all_true;
        all_entries = λ l e. keeps.marked l (here.trail.same l ∙ front_among cs log entries here.trail.chain (length start) l (ap (λ (es : List Entry). among (lits_of es) l) here.begins ∙ e));
      }

  pub refutation_found : (marks : Marks) (entries : List Entry) (new : List Step) → IsSearch cs start log marks entries → IsDerived cs log new (unforced (take (length start) entries)) → IsRefuted cs (lits_of (unforced start)) new
  refutation_found marks entries new here derived =
      record {
        earlier = log;
        kept = unforced start;
        valid = here.valid;
        derived = subst (λ (es : List Entry). IsDerived cs log new (unforced es)) here.begins derived;
        part = part_self (lits_of (unforced start));
      }

  -- the clause derived turns the entry
  pub turn_forced : (marks : Marks) (entries : List Entry) (new : List Step) (flip : Flip) → IsSearch cs start log marks entries → IsTurning cs log new (length start) entries flip → IsTurned cs new entries flip (Earlier (length new - 1))
  turn_forced marks entries new flip here turning =
      record {
        forced =
            λ d.
            record {
              clause = turning.derived.step.clause;
              named = ap (λ (steps : List Step). last_clause steps) turning.derived.added ∙ ap (option_map (λ (t : Step). t.clause)) (got_last log turning.derived.step);
              left =
                  ap (left_of front) (turning.derived.clause ∙ split d)
                  ∙ filter-append (q d) (map neg (filter p front)) (neg (get_or entries flip.place d).lit ∷ [])
                  ∙ ap₂ (λ (xs ys : List Lit). xs ++ ys) (filter_none (q d) (map neg (filter p front)) (λ m h. ap not (among_member front (neg m) (from_filter p front (neg m) (from_map (filter p front) m h)))))
                  (ap (λ b. cond (not b) (neg (get_or entries flip.place d).lit ∷ []) []) (absent d));
            };
      }
    where
      front : List Lit
      front = lits_of (take flip.cut entries)

      p : Lit → Bool
      p = sees turning.derived.seen

      q : Entry → Lit → Bool
      q d m = not (among front (neg m))

      split : (d : Entry) → denial turning.derived.seen (take (flip.place + 1) entries) ≡ map neg (filter p front) ++ neg (get_or entries flip.place d).lit ∷ []
      split d =
          ap (λ (es : List Entry). map neg (filter p (lits_of es))) (take_more entries flip.place d turning.within)
          ∙ ap (λ ls. map neg (filter p ls)) (lits_push (take flip.place entries) (get_or entries flip.place d))
          ∙ ap (map neg) (filter-append p (lits_of (take flip.place entries)) ((get_or entries flip.place d).lit ∷ []) ∙ ap (λ b. filter p (lits_of (take flip.place entries)) ++ cond b ((get_or entries flip.place d).lit ∷ []) []) (turning.cut.seen_too d))
          ∙ ap (λ (ls : List Lit). map neg (ls ++ (get_or entries flip.place d).lit ∷ [])) turning.cut.apart.unseen
          ∙ map-append neg (filter p front) ((get_or entries flip.place d).lit ∷ [])

      absent : (d : Entry) → among front (neg (neg (get_or entries flip.place d).lit)) ≡ false
      absent d =
          ap (among front) (neg_neg (get_or entries flip.place d).lit)
          ∙ not_so (among front (get_or entries flip.place d).lit)
          (λ e. clause_last cs.bools (lits_of (take flip.place entries)) (get_or entries flip.place d).lit (get_or entries flip.place d).lit
          (ap (is_clause cs.bools) (sym (lits_push (take flip.place entries) (get_or entries flip.place d)) ∙ ap (λ (es : List Entry). lits_of es) (sym (take_more entries flip.place d turning.within)) ∙ sym (take-map (λ (k : Entry). k.lit) (flip.place + 1) entries)) ∙ clause_take cs.bools (flip.place + 1) (lits_of entries) here.trail.chain.clause)
          (cut_contained entries flip.cut flip.place (get_or entries flip.place d).lit turning.cut.apart.before (among_contained front (get_or entries flip.place d).lit e)) refl)

  pub search_turned : (marks now : Marks) (entries left : List Entry) (new : List Step) (flip : Flip) (d : Entry) → IsSearch cs start log marks entries → IsTurning cs log new (length start) entries flip
      → left ≡ take flip.cut entries ++ turned (get_or entries flip.place d) (Earlier (length new - 1)) ∷ []
      → (IsTrail cs new marks entries → IsTurned cs new entries flip (Earlier (length new - 1)) → IsTrail cs new now left) → IsSearch cs start new now left
  search_turned marks now entries left new flip d here turning is made =
      let within : flip.cut < length entries = omega (arith, turning.within, turning.cut.apart.before) in
      record {
        trail = made (subst (λ (steps : List Step). IsTrail cs steps marks entries) (sym turning.derived.added) (trail_grows cs log turning.derived.step marks entries here.trail)) (turn_forced marks entries new flip here turning);
        begins =
            ap (take (length start)) is
            ∙ take-append-le (length start) (take flip.cut entries) (turned (get_or entries flip.place d) (Earlier (length new - 1)) ∷ []) (omega (arith, turning.cut.apart.above, within, length-take-le flip.cut entries (omega (arith, within))))
            ∙ take-take (length start) flip.cut entries turning.cut.apart.above
            ∙ here.begins;
        valid = ap (first_bad_step cs) turning.derived.added ∙ valid_push cs log turning.derived.step here.valid turning.derived.follows;
      }

  -- fewer trails are above
  pub search_falls : (marks : Marks) (old entries left : List Entry) (new : List Step) (flip : Flip) (d : Entry) → IsTrail cs log marks entries → entries ≡ old ++ drop (length old) entries
      → IsTurning cs log new (length start) entries flip → left ≡ take flip.cut entries ++ turned (get_or entries flip.place d) (Earlier (length new - 1)) ∷ [] → above cs.bools left < above cs.bools old
  search_falls marks old entries left new flip d trail front turning is =
      omega (
        arith,
        ap (above cs.bools) is,
        above_turned cs.bools entries flip.cut d (turned (get_or entries flip.place d) (Earlier (length new - 1))) (Earlier (length new - 1)) (omega (arith, trail.room, trail.len)) (omega (arith, turning.within, turning.cut.apart.before)) (turning.cut.apart.chosen d) refl,
        ap (above cs.bools) front,
        above_longer cs.bools old (drop (length old) entries),
      )

  -- the ends and the turn of the loop
  module _ (a marks : Marks) (old entries : List Entry) (before : IsSearch cs start log a old) where
    pub values_end : (values : List Bool) (reached : Reached) → reached ≡ Values values → IsReached cs log old marks entries reached → AreFound cs start log values
    values_end values reached is told =
        let here : IsReached cs log old marks entries (Values values) = subst (IsReached cs log old marks entries) is told in
        record { hold = values_found marks entries values (search_extended a marks old entries before here.trail here.front) here.reaches.0 here.reaches.1; valid = before.valid }

    pub refuted_end : (reached : Reached) (flip : Option Flip) (shown : List Entry) (new : List Step) → IsReached cs log old marks entries reached → shown ≡ entries → flip ≡ None
        → Derives cs log new (length start) shown flip → IsRefuted cs (lits_of (unforced start)) new
    refuted_end reached flip shown new here same none derived =
        refutation_found marks entries new (search_extended a marks old entries before here.trail here.front)
        (subst (λ (es : List Entry). IsDerived cs log new (unforced (take (length start) es))) same (subst (Derives cs log new (length start) shown) none derived))

    pub grown_end : (reached : Reached) → IsReached cs log old marks entries reached → IsGrown cs start marks entries
    grown_end reached here =
        let search : IsSearch cs start log marks entries = search_extended a marks old entries before here.trail here.front in
        record { log = log; trail = search.trail; begins = search.begins }

    module _ (reached : Reached) (flip : Flip) (found : Option Flip) (shown left : List Entry) (new : List Step) (d : Entry) (here : IsReached cs log old marks entries reached) (same : shown ≡ entries) (some : found ≡ Some flip)
        (derived : Derives cs log new (length start) shown found) (is : left ≡ take flip.cut entries ++ turned (get_or entries flip.place d) (Earlier (length new - 1)) ∷ []) where
      turning : IsTurning cs log new (length start) entries flip
      turning = subst (λ (es : List Entry). IsTurning cs log new (length start) es flip) same (subst (Derives cs log new (length start) shown) some derived)

      pub turn_keeps : (now : Marks) → ((sets : ClauseMap) (steps : List Step) → IsTrail sets steps marks entries → IsTurned sets steps entries flip (Earlier (length new - 1)) → IsTrail sets steps now left) → IsSearch cs start new now left
      turn_keeps now made = search_turned marks now entries left new flip d (search_extended a marks old entries before here.trail here.front) turning is (made cs new)

      pub turn_falls : above cs.bools left < above cs.bools old
      turn_falls = search_falls marks old entries left new flip d here.trail here.front turning is

-- what all choices are taken back to
pub search_back : (cs : ClauseMap) (start : List Entry) (log : List Step) (marks now : Marks) (entries left : List Entry) (place : ℕ) → length start ≤ place → left ≡ take place entries
    → (IsTrail cs log marks entries → IsTrail cs log now left) → IsSearch cs start log marks entries → IsSearch cs start log now left
search_back cs start log marks now entries left place before is cut here =
    record {
      trail = cut here.trail;
      begins = ap (take (length start)) is ∙ take-take (length start) place entries before ∙ here.begins;
      valid = here.valid;
    }
