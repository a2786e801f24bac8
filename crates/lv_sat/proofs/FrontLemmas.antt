-- The front of the trail: what stands after an assumption more, and after a cut back to a level.
use Rattle.std.proofs.Common.{◌≡◌, ◌⊎◌, ℕ, suc, ◌+◌, ◌<◌, ◌≤◌, Bool, true, false, not, ◌&&◌, List, [], ◌∷◌, ◌++◌, length, take, drop, get_or, Option, Some, None, is_none, refl, sym, ap, ap₂, subst, ◌∙◌, arith, inl, inr, Contains}
use Rattle.std.specs.List.{list_all}
use Rattle.std.proofs.lemmas.Bool.{cases_eq, cases_lt}
use Rattle.std.proofs.lemmas.List.{get_or_append_left, get_or_default, get_or-take, length-append, length-take-le, map-append, take-append-le, take-map, take-take, take_all, take_more}
use Rattle.std.proofs.lemmas.List.Folds.{list_all-append}
use Rattle.std.proofs.Math.Seq.{get_or-append_seam, take-append_seam}
use Rattle.lv_base.specs.declared.ids.Lit.{Lit}
use Rattle.lv_clauses.specs.Literals.{neg, in_range, is_clause}
use Rattle.lv_clauses.specs.ClauseMap.{ClauseMap, Puts, clause_at}
use Rattle.lv_clauses.specs.Marks.{Marks, is_marked, is_free, mark_is}
use Rattle.lv_clauses.proofs.LiteralLemmas.{neg_neg, and_both, all_member, or_right, Contains-nil, Contains-cases}
use Rattle.lv_clauses.specs.declared.log.Hint.{Hint}
use Rattle.lv_clauses.specs.declared.log.Step.{Step}
use Rattle.lv_clauses.specs.declared.log.Hint.TheVariants.{Given, Earlier}
use Rattle.lv_clauses.specs.Following.{clause_of, first_bad_step}
use Rattle.lv_trail.specs.declared.trail.Entry.{Entry}
use Rattle.lv_sat.specs.declared.front.Level.{Level}
use Rattle.lv_sat.specs.Answers.{IsSublist}
use Rattle.lv_trail.specs.Trail.{same_lit, among, lits_of, unforced, is_open, IsForced, IsFalse, IsChain, IsTrail, IsPropagated}
use Rattle.lv_trail.specs.Analysis.{IsDerived}
use Rattle.lv_sat.specs.Front.{assumed, AreLevels, Assumes, IsFront, IsLevel, IsStanding, IsKept, IsRefuted, Stands}
use Rattle.lv_trail.proofs.ListLemmas.{same_lit-self, among_contained, among_push, all_from, clause_range, clause_take, clause_last, lt_is}
use Rattle.lv_trail.proofs.SeenLemmas.{in_filter}
use Rattle.lv_trail.proofs.TrailLemmas.{lits_push, chain_push, chain_take, front_of, front_then, none_at, not_so}
use Rattle.lv_trail.proofs.PartLemmas.{part_front, part_member, part_more, part_nothing, part_push, part_then, unforced_front, unforced_member, unforced_push}
use Rattle.lv_trail.proofs.AnalysisLemmas.{among_both, or_left}

-- what begins with a list has it as a front
pub begins_with : {X : Type 0} (old now : List X) → now ≡ old ++ drop (length old) now → take (length old) now ≡ old
begins_with old now front = ap (take (length old)) front ∙ take-append_seam old (drop (length old) now)

pub no_shorter : {X : Type 0} (old now : List X) → now ≡ old ++ drop (length old) now → length old ≤ length now
no_shorter old now front = omega (arith, ap length front, length-append old (drop (length old) now))

lits_len : (levels : List Level) → length (assumed levels) ≡ length levels
lits_len [] = refl
lits_len (l ∷ ls) = ap suc (lits_len ls)

pub assumed_push : (levels : List Level) (level : Level) → assumed (levels ++ level ∷ []) ≡ assumed levels ++ level.lit ∷ []
assumed_push levels level = map-append (λ (l : Level). l.lit) levels (level ∷ [])

pub assumed_take : (levels : List Level) (count : ℕ) → assumed (take count levels) ≡ take count (assumed levels)
assumed_take levels count = sym (take-map (λ (l : Level). l.lit) count levels)

all_push : {X : Type 0} (p : X → Bool) (xs : List X) (x : X) → list_all p xs ≡ true → p x ≡ true → list_all p (xs ++ x ∷ []) ≡ true
all_push p xs x all one = list_all-append p xs (x ∷ []) ∙ and_both (list_all p xs) (p x && true) all (ap (λ b. b && true) one)

-- more entries make no less true
among_more : (old now : List Entry) (l : Lit) → now ≡ old ++ drop (length old) now → among (lits_of old) l ≡ true → among (lits_of now) l ≡ true
among_more old now l front e =
    ap (λ (es : List Entry). among (lits_of es) l) front
    ∙ among_both old (drop (length old) now) l
    ∙ or_left (among (lits_of old) l) (among (lits_of (drop (length old) now)) l) e

all_more : (ls : List Lit) (old now : List Entry) → now ≡ old ++ drop (length old) now → list_all (among (lits_of old)) ls ≡ true → list_all (among (lits_of now)) ls ≡ true
all_more ls old now front all = all_from (among (lits_of now)) ls (λ l h. among_more old now l front (all_member (among (lits_of old)) ls l all h))

-- fronts
pub front_more : (ls : List Lit) (old now : List Entry) → now ≡ old ++ drop (length old) now → unforced now ≡ unforced old → IsFront ls old → IsFront ls now
front_more ls old now front forced here =
    record {
      part = subst (λ (es : List Entry). IsSublist (lits_of es) ls) (sym forced) here.part;
      all_true = all_more ls old now front here.all_true;
    }

pub front_true : (ls : List Lit) (l : Lit) (entries : List Entry) → among (lits_of entries) l ≡ true → IsFront ls entries → IsFront (ls ++ l ∷ []) entries
front_true ls l entries e here = record { part = part_more (lits_of (unforced entries)) ls l here.part; all_true = all_push (among (lits_of entries)) ls l here.all_true e }

pub front_push : (ls : List Lit) (l : Lit) (entries : List Entry) → IsFront ls entries → IsFront (ls ++ l ∷ []) (entries ++ record { lit = l; reason = None } ∷ [])
front_push ls l entries here =
    record {
      part = subst (λ ks. IsSublist ks (ls ++ l ∷ [])) (sym (unforced_push entries l)) (part_push (lits_of (unforced entries)) ls l here.part);
      all_true =
          all_push (among (lits_of more)) ls l
          (all_from (among (lits_of more)) ls (λ k h. among_both entries (e ∷ []) k ∙ or_left (among (lits_of entries) k) (among (e.lit ∷ []) k) (all_member (among (lits_of entries)) ls k here.all_true h)))
          (among_both entries (e ∷ []) l ∙ or_right (among (lits_of entries) l) (among (l ∷ []) l) (or_left (same_lit l l) false (same_lit-self l)));
    }
  where
    e : Entry
    e = record { lit = l; reason = None }

    more : List Entry
    more = entries ++ e ∷ []

-- levels
module _ (levels : List Level) (entries : List Entry) (here : AreLevels levels entries) where
  pub levels_more : (now : List Entry) → now ≡ entries ++ drop (length entries) now → AreLevels levels now
  levels_more now front =
      record {
        rising = here.rising;
        each =
            λ at d below.
            let level : IsLevel levels entries at (get_or levels at d).place = here.each at d below in
            record {
              within = omega (arith, level.within, no_shorter entries now front);
              front =
                  subst (IsFront (take at (assumed levels)))
                  (sym (sym (take-take (get_or levels at d).place (length entries) now level.within) ∙ ap (take (get_or levels at d).place) (begins_with entries now front))) level.front;
            };
      }

  pub levels_push : (l : Lit) → IsFront (assumed levels) entries → AreLevels (levels ++ record { lit = l; place = length entries } ∷ []) entries
  levels_push l whole =
      record {
        rising = λ i j d before below. by_rise i j d before below (cases_lt j (length levels)) (cases_lt i (length levels));
        each = λ at d below. by_place at d below (cases_lt at (length levels));
      }
    where
      new : Level
      new = record { lit = l; place = length entries }

      old_at : (i : ℕ) (d : Level) → i < length levels → (get_or (levels ++ new ∷ []) i d).place ≡ (get_or levels i d).place
      old_at i d below = ap (λ (k : Level). k.place) (get_or_append_left levels (new ∷ []) d i below)

      new_at : (i : ℕ) (d : Level) → i ≡ length levels → (get_or (levels ++ new ∷ []) i d).place ≡ length entries
      new_at i d is = ap (λ (k : Level). k.place) (ap (λ n. get_or (levels ++ new ∷ []) n d) is ∙ get_or-append_seam levels new [] d)

      last_of : (i : ℕ) → i < length (levels ++ new ∷ []) → length levels ≤ i → i ≡ length levels
      last_of i below past = grind (arith, below, past, length-append levels (new ∷ []))

      by_rise : (i j : ℕ) (d : Level) → i ≤ j → j < length (levels ++ new ∷ []) → (j < length levels) ⊎ (length levels ≤ j) → (i < length levels) ⊎ (length levels ≤ i) → (get_or (levels ++ new ∷ []) i d).place ≤ (get_or (levels ++ new ∷ []) j d).place
      by_rise i j d before below (inl early) any = omega (arith, old_at i d (omega (arith, early, before)), old_at j d early, here.rising i j d before early)
      by_rise i j d before below (inr late) (inl early) = omega (arith, old_at i d early, new_at j d (last_of j below late), (here.each i d early).within)
      by_rise i j d before below (inr late) (inr past) = omega (arith, new_at i d (omega (arith, last_of j below late, before, past)), new_at j d (last_of j below late))

      by_place : (at : ℕ) (d : Level) → at < length (levels ++ new ∷ []) → (at < length levels) ⊎ (length levels ≤ at) → IsLevel (levels ++ new ∷ []) entries at (get_or (levels ++ new ∷ []) at d).place
      by_place at d below (inl early) =
          subst (IsLevel (levels ++ new ∷ []) entries at) (sym (old_at at d early))
          (record {
            within = (here.each at d early).within;
            front =
                subst (λ ls. IsFront ls (take (get_or levels at d).place entries))
                (sym (ap (take at) (assumed_push levels new) ∙ take-append-le at (assumed levels) (l ∷ []) (omega (arith, early, lits_len levels)))) (here.each at d early).front;
          })
      by_place at d below (inr late) =
          subst (IsLevel (levels ++ new ∷ []) entries at) (sym (new_at at d (last_of at below late)))
          (record {
            within = omega arith;
            front =
                subst (λ ls. IsFront ls (take (length entries) entries))
                (sym (ap (λ n. take n (assumed (levels ++ new ∷ []))) (last_of at below late ∙ sym (lits_len levels)) ∙ ap (take (length (assumed levels))) (assumed_push levels new) ∙ take-append_seam (assumed levels) (l ∷ [])))
                (subst (IsFront (assumed levels)) (sym (take_all (length entries) entries (omega arith))) whole);
          })

  -- a cut back to a level
  module _ (count : ℕ) (d : Level) (within : count < length levels) where
    pub cut_fits : (get_or levels count d).place ≤ length entries
    cut_fits = (here.each count d within).within

    pub cut_front : IsFront (assumed (take count levels)) (take (get_or levels count d).place entries)
    cut_front = subst (λ ls. IsFront ls (take (get_or levels count d).place entries)) (sym (assumed_take levels count)) (here.each count d within).front

    pub cut_levels : AreLevels (take count levels) (take (get_or levels count d).place entries)
    cut_levels =
        record {
          rising =
              λ i j b before below.
              let late : j < count = omega (arith, below, size) in
              omega (arith, left_at_place i b (omega (arith, late, before)), left_at_place j b late, here.rising i j b before (omega (arith, late, within)));
          each = λ at b below. level at b (omega (arith, below, size));
        }
      where
        size : length (take count levels) ≡ count
        size = length-take-le count levels (omega (arith, within))

        left_at_place : (i : ℕ) (b : Level) → i < count → (get_or (take count levels) i b).place ≡ (get_or levels i b).place
        left_at_place i b below = ap (λ (k : Level). k.place) (get_or-take count levels i b below)

        level : (at : ℕ) (b : Level) → at < count → IsLevel (take count levels) (take (get_or levels count d).place entries) at (get_or (take count levels) at b).place
        level at b early =
            let before : (get_or levels at b).place ≤ (get_or levels count d).place =
            omega (arith, here.rising at count b (omega (arith, early)) within, ap (λ (k : Level). k.place) (get_or_default levels count b d within)) in
            subst (IsLevel (take count levels) (take (get_or levels count d).place entries) at) (sym (left_at_place at b early))
            (record {
              within = omega (arith, before, length-take-le (get_or levels count d).place entries cut_fits);
              front =
                  subst (λ ls. IsFront ls (take (get_or levels at b).place (take (get_or levels count d).place entries)))
                  (sym (ap (take at) (assumed_take levels count) ∙ take-take at count (assumed levels) (omega (arith, early))))
                  (subst (IsFront (take at (assumed levels))) (sym (take-take (get_or levels at b).place (get_or levels count d).place entries before)) (here.each at b (omega (arith, early, within))).front);
            })

-- one assumption more is shared
pub shared_more : (levels : List Level) (assumptions : List Lit) (count : ℕ) (d : Level) (e : Lit) → count < length levels → count < length assumptions → (get_or levels count d).lit ≡ get_or assumptions count e
    → take count (assumed levels) ≡ take count assumptions → take (count + 1) (assumed levels) ≡ take (count + 1) assumptions
shared_more levels assumptions count d e within inside same shared =
    sym (assumed_take levels (count + 1))
    ∙ ap (λ (ls : List Level). assumed ls) (take_more levels count d within)
    ∙ assumed_push (take count levels) (get_or levels count d)
    ∙ ap₂ (λ (ls : List Lit) (l : Lit). ls ++ l ∷ []) (assumed_take levels count ∙ shared) same
    ∙ sym (take_more assumptions count e inside)

pub cut_shared : (levels kept : List Level) (assumptions : List Lit) (count : ℕ) → count ≤ length levels → kept ≡ take count levels → take count (assumed levels) ≡ take count assumptions → assumed kept ≡ take (length kept) assumptions
cut_shared levels kept assumptions count within is shared =
    ap (λ (ls : List Level). assumed ls) is
    ∙ assumed_take levels count
    ∙ shared
    ∙ ap (λ n. take n assumptions) (sym (ap (λ (ls : List Level). length ls) is ∙ length-take-le count levels (omega (arith, within))))

pub kept_cut : (cs : ClauseMap) (levels kept : List Level) (marks after : Marks) (entries left : List Entry) (count : ℕ) (d : Level) → count < length levels → left ≡ take (get_or levels count d).place entries → kept ≡ take count levels
    → ((sets : ClauseMap) (log : List Step) → IsTrail sets log marks entries → IsTrail sets log after left) → IsKept cs levels marks entries → IsKept cs kept after left
kept_cut cs levels kept marks after entries left count d within left_is kept_is cut here =
    record {
      trail = λ some. cut cs [] (here.trail (omega (arith, some, ap (λ (es : List Entry). length es) left_is, length-take-le (get_or levels count d).place entries (cut_fits levels entries here.places count d within), cut_fits levels entries here.places count d within)));
      places = subst (λ (ls : List Level). AreLevels ls left) (sym kept_is) (subst (AreLevels (take count levels)) (sym left_is) (cut_levels levels entries here.places count d within));
      front = subst (λ (ls : List Level). IsFront (assumed ls) left) (sym kept_is) (subst (IsFront (assumed (take count levels))) (sym left_is) (cut_front levels entries here.places count d within));
    }

pub none_left : (o : Option Hint) → ((h : Hint) → o ≡ Some h → ⊥) → o ≡ None
none_left None never = refl
none_left (Some h) never = absurd (never h refl)

-- of a free boolean neither literal is marked, of another one is
neg_of : (o : Option Bool) (s : Bool) → mark_is o s ≡ false → is_none o ≡ false → mark_is o (not s) ≡ true
neg_of None s p q = absurd (cc)
neg_of (Some true) true p q = absurd (cc)
neg_of (Some true) false p q = refl
neg_of (Some false) true p q = refl
neg_of (Some false) false p q = absurd (cc)

pub neg_marked : (marks : Marks) (l : Lit) → l.var.0 < length marks → is_marked marks l ≡ false → is_open marks l ≡ false → is_marked marks (neg l) ≡ true
neg_marked marks l within unmarked busy = neg_of (get_or marks l.var.0 None) l.sign unmarked (not_so (is_free marks l) (λ free. absurd (cc (and_both (in_range (length marks) l) (is_free marks l) (lt_is l.var.0 (length marks) within) free, busy))))

-- the assumptions that stand
module _ (cs : ClauseMap) (levels : List Level) (marks : Marks) (entries : List Entry) (here : IsStanding cs levels marks entries) (l : Lit) where
  abbrev added : Level
  added = record { lit = l; place = length entries }

  -- one is true already
  pub stands_true : is_marked marks l ≡ true → IsStanding cs (levels ++ added ∷ []) marks entries
  stands_true e =
      record {
        trail = here.trail;
        places = levels_push levels entries here.places l here.front;
        front = subst (λ ls. IsFront ls entries) (sym (assumed_push levels added)) (front_true (assumed levels) l entries (sym (here.trail.same l) ∙ e) here.front);
      }

  -- one is put on, with what it forces
  module _ (now : Marks) (more : List Entry) (found : Option Hint) (grown : IsPropagated cs [] (entries ++ record { lit = l; reason = None } ∷ []) now more found) where
    abbrev pushed : List Entry
    pushed = entries ++ record { lit = l; reason = None } ∷ []

    longer : more ≡ entries ++ drop (length entries) more
    longer = from_pushed entries (record { lit = l; reason = None }) more grown.extended.front
      where
        from_pushed : (old : List Entry) (e : Entry) (xs : List Entry) → xs ≡ (old ++ e ∷ []) ++ drop (length (old ++ e ∷ [])) xs → xs ≡ old ++ drop (length old) xs
        from_pushed old e xs f = front_then old (old ++ e ∷ []) xs (front_of old (old ++ e ∷ []) (e ∷ []) refl) f

    pub pushed_front : IsFront (assumed levels ++ l ∷ []) more
    pushed_front = front_more (assumed levels ++ l ∷ []) pushed more grown.extended.front grown.forced (front_push (assumed levels) l entries here.front)

    pub stands_open : IsStanding cs (levels ++ added ∷ []) now more
    stands_open =
        record {
          trail = grown.extended.trail;
          places = levels_more (levels ++ added ∷ []) entries (levels_push levels entries here.places l here.front) more longer;
          front = subst (λ ls. IsFront ls more) (sym (assumed_push levels added)) pushed_front;
        }

    -- what it forces makes a clause false
    pub refuted_open : (log new_log : List Step) → log ≡ [] → IsDerived cs log new_log (unforced more) → IsRefuted cs (assumed levels ++ l ∷ []) new_log
    refuted_open log new_log blank derived =
        record { earlier = log; kept = unforced more; valid = ap (first_bad_step cs) blank; derived = derived; part = pushed_front.part }

    -- and it is taken back
    pub stands_back : (left : List Entry) (after : Marks) → left ≡ take (length entries) more → (IsTrail cs [] now more → IsTrail cs [] after left) → IsStanding cs levels after left
    stands_back left after is cut =
        let same : entries ≡ left = sym (is ∙ begins_with entries more longer) in
        record { trail = cut grown.extended.trail; places = subst (AreLevels levels) same here.places; front = subst (IsFront (assumed levels)) same here.front }

-- an assumption in the place of its negation, which a clause forces
module _ (cs : ClauseMap) (log : List Step) (entries : List Entry) (chain : IsChain cs log entries) (l : Lit) (place : ℕ) (d : Entry) (within : place < length entries) (there : (get_or entries place d).lit ≡ neg l) where
  abbrev instead : List Entry
  instead = take place entries ++ record { lit = l; reason = None } ∷ []

  front_clause : is_clause cs.bools (lits_of (take place entries) ++ neg l ∷ []) ≡ true
  front_clause =
      ap (is_clause cs.bools)
      (ap (λ k. lits_of (take place entries) ++ k ∷ []) (sym there) ∙ sym (lits_push (take place entries) (get_or entries place d)) ∙ ap (λ (es : List Entry). lits_of es) (sym (take_more entries place d within)) ∙ sym (take-map (λ (k : Entry). k.lit) (place + 1) entries))
      ∙ clause_take cs.bools (place + 1) (lits_of entries) chain.clause

  pub chain_instead : IsChain cs log instead
  chain_instead =
      chain_push cs log (take place entries) (chain_take cs log entries chain place (omega (arith, within))) (record { lit = l; reason = None })
      (lt_is l.var.0 cs.bools (clause_range cs.bools (lits_of (take place entries) ++ neg l ∷ []) (neg l) front_clause (among_contained (lits_of (take place entries) ++ neg l ∷ []) (neg l) (among_push (lits_of (take place entries)) (neg l) (neg l) ∙ or_right (among (lits_of (take place entries)) (neg l)) (same_lit (neg l) (neg l)) (same_lit-self (neg l))))))
      (λ m h same. clause_last cs.bools (lits_of (take place entries)) (neg l) m front_clause h same)
      (λ h is. absurd (none_at h is))

  pub false_instead : (h : Hint) → (get_or entries place d).reason ≡ Some h → IsFalse cs.slots log (lits_of instead) h
  false_instead h is =
      let forced : IsForced cs.slots log (lits_of (take place entries)) (get_or entries place d).lit h = chain.forced place d h within is in
      record { clause = forced.clause; named = forced.named; turned = λ m h2. turned forced m h2 (among (lits_of (take place entries)) (neg m)) refl }
    where
      turned : (forced : IsForced cs.slots log (lits_of (take place entries)) (get_or entries place d).lit h) (m : Lit) → Contains forced.clause m → (b : Bool) → among (lits_of (take place entries)) (neg m) ≡ b → among (lits_of instead) (neg m) ≡ true
      turned forced m h2 true e = among_both (take place entries) (record { lit = l; reason = None } ∷ []) (neg m) ∙ or_left (among (lits_of (take place entries)) (neg m)) (among (l ∷ []) (neg m)) e
      turned forced m h2 false e =
          among_both (take place entries) (record { lit = l; reason = None } ∷ []) (neg m)
          ∙ or_right (among (lits_of (take place entries)) (neg m)) (among (l ∷ []) (neg m))
          (or_left (same_lit l (neg m)) false (ap (same_lit l) (ap neg (is_left forced m h2 e ∙ there) ∙ neg_neg l) ∙ same_lit-self l))
        where
          is_left : (forced : IsForced cs.slots log (lits_of (take place entries)) (get_or entries place d).lit h) (m : Lit) → Contains forced.clause m → among (lits_of (take place entries)) (neg m) ≡ false → m ≡ (get_or entries place d).lit
          is_left forced m h2 e =
              sym (only (get_or entries place d).lit m (subst (λ ls. Contains ls m) forced.left (in_filter (λ k. not (among (lits_of (take place entries)) (neg k))) forced.clause m h2 (ap not e))))
            where
              only : (k m : Lit) → Contains (k ∷ []) m → k ≡ m
              only k m h3 = by_place (Contains-cases k m [] h3)
                where
                  by_place : (k ≡ m) ⊎ Contains [] m → k ≡ m
                  by_place (inl same) = same
                  by_place (inr never) = absurd (Contains-nil m never)

  -- a front of assumptions among which the literal may stand has its negation by a clause
  pub has_reason : (assumptions : List Lit) → IsFront assumptions entries → is_clause cs.bools (assumptions ++ l ∷ []) ≡ true → (get_or entries place d).reason ≡ None → ⊥
  has_reason assumptions front clause is =
      clause_last cs.bools assumptions l (neg l) clause
      (part_member (lits_of (unforced entries)) assumptions front.part (neg l) (subst (λ k. Contains (lits_of (unforced entries)) k) there (unforced_member entries place d within is))) refl

  pub refuted_instead : (assumptions : List Lit) (new : List Step) → log ≡ [] → IsFront assumptions entries → IsDerived cs log new (unforced instead) → IsRefuted cs (assumptions ++ l ∷ []) new
  refuted_instead assumptions new blank front derived =
      record {
        earlier = log;
        kept = unforced instead;
        valid = ap (first_bad_step cs) blank;
        derived = derived;
        part = subst (λ ls. IsSublist ls (assumptions ++ l ∷ [])) (sym (unforced_push (take place entries) l)) (part_push (lits_of (unforced (take place entries))) assumptions l (part_then (lits_of (unforced (take place entries))) (lits_of (unforced entries)) assumptions (unforced_front entries place) front.part));
      }

-- the next assumption
pub next_clause : (n : ℕ) (assumptions stand : List Lit) (at : ℕ) (d : Lit) → at < length assumptions → stand ≡ take at assumptions → is_clause n assumptions ≡ true → is_clause n (stand ++ get_or assumptions at d ∷ []) ≡ true
next_clause n assumptions stand at d within is clause =
    ap (is_clause n) (ap (λ (ls : List Lit). ls ++ get_or assumptions at d ∷ []) is ∙ sym (take_more assumptions at d within)) ∙ clause_take n (at + 1) assumptions clause

pub refuted_first : (cs : ClauseMap) (assumptions : List Lit) (old new : List Level) (log : List Step) (at : ℕ) (d : Lit) (stands : Bool) → at < length assumptions → assumed old ≡ take at assumptions → stands ≡ false
    → Assumes cs old (get_or assumptions at d) new log stands → IsRefuted cs assumptions log
refuted_first cs assumptions old new log at d true within is fails here = absurd (cc)
refuted_first cs assumptions old new log at d false within is fails here =
    record {
      earlier = here.earlier;
      kept = here.kept;
      valid = here.valid;
      derived = here.derived;
      part =
          part_then (lits_of here.kept) (take (at + 1) assumptions) assumptions
          (subst (IsSublist (lits_of here.kept)) (ap (λ (ls : List Lit). ls ++ get_or assumptions at d ∷ []) is ∙ sym (take_more assumptions at d within)) here.part) (part_front (at + 1) assumptions);
    }

-- what clauses force without any assumption
module _ (cs : ClauseMap) (levels : List Level) (a marks : Marks) (old entries : List Entry) (log : List Step) (found : Option Hint) (here : IsKept cs levels a old) (begun : IsPropagated cs log old marks entries found) (blank : log ≡ []) where
  begun_front : IsFront (assumed levels) entries
  begun_front = front_more (assumed levels) old entries begun.extended.front begun.forced here.front

  pub begun_stands : IsStanding cs levels marks entries
  begun_stands =
      record {
        trail = subst (λ (steps : List Step). IsTrail cs steps marks entries) blank begun.extended.trail;
        places = levels_more levels old here.places entries begun.extended.front;
        front = begun_front;
      }

  pub begun_refuted : (assumptions : List Lit) (new : List Step) → assumed levels ≡ take (length levels) assumptions → IsDerived cs log new (unforced entries) → IsRefuted cs assumptions new
  begun_refuted assumptions new shared derived =
      record {
        earlier = log;
        kept = unforced entries;
        valid = ap (first_bad_step cs) blank;
        derived = derived;
        part = part_then (lits_of (unforced entries)) (assumed levels) assumptions begun_front.part (subst (λ ls. IsSublist ls assumptions) (sym shared) (part_front (length levels) assumptions));
      }

-- where the assumptions stand the trail is their front
pub front_standing : (cs : ClauseMap) (assumptions : List Lit) (levels : List Level) (marks : Marks) (entries : List Entry) (log : List Step) (stands : Bool) → stands ≡ true → (stands ≡ true → IsStanding cs levels marks entries)
    → Stands cs assumptions levels log stands → IsFront assumptions entries
front_standing cs assumptions levels marks entries log true is standing told = subst (λ ls. IsFront ls entries) told.0 (standing refl).front
front_standing cs assumptions levels marks entries log false is standing told = absurd (cc)

-- an empty front
pub kept_nothing : (cs : ClauseMap) (levels : List Level) (marks : Marks) (entries : List Entry) → levels ≡ [] → entries ≡ [] → IsKept cs levels marks entries
kept_nothing cs levels marks entries no_levels no_entries =
    subst (λ (ls : List Level). IsKept cs ls marks entries) (sym no_levels)
    (subst (IsKept cs [] marks) (sym no_entries)
    (record {
      trail = λ some. absurd (omega (arith, some));
      places = record { rising = λ i j d before below. absurd (omega (arith, below)); each = λ at d below. absurd (omega (arith, below)) };
      front = record { part = part_nothing []; all_true = refl };
    }))

-- what clauses force is added behind the front
pub kept_grown : (cs : ClauseMap) (levels : List Level) (before marks : Marks) (old entries : List Entry) (found : Option Hint) → IsKept cs levels before old → IsPropagated cs [] old marks entries found → IsKept cs levels marks entries
kept_grown cs levels before marks old entries found here grown =
    let standing : IsStanding cs levels marks entries = begun_stands cs levels before marks old entries [] found here grown refl in
    record { trail = λ some. standing.trail; places = standing.places; front = standing.front }

-- a clause more
module _ (old new : ClauseMap) (id : ℕ) (c : List Lit) (puts : Puts old new id (Some c)) (vacant : clause_at old.slots id ≡ None) where
  pub named_still : (log : List Step) (h : Hint) (clause : List Lit) → clause_of old.slots log h ≡ Some clause → clause_of new.slots log h ≡ Some clause
  named_still log (Given k) clause named = elim (cases_eq k.0 id) [
    | inl same ↦ absurd (cc (sym vacant ∙ ap (clause_at old.slots) (sym same) ∙ named))
    | inr differs ↦ puts.others k.0 differs ∙ named
  ]
  named_still log (Earlier place) clause named = named

  trail_still : (marks : Marks) (entries : List Entry) → IsTrail old [] marks entries → IsTrail new [] marks entries
  trail_still marks entries trail =
      record {
        len = trail.len ∙ sym puts.bools;
        same = trail.same;
        room = trail.room;
        chain =
            record {
              clause = ap (λ n. is_clause n (lits_of entries)) puts.bools ∙ trail.chain.clause;
              forced =
                  λ place d h within reason.
                  let forced : IsForced old.slots [] (lits_of (take place entries)) (get_or entries place d).lit h = trail.chain.forced place d h within reason in
                  record { clause = forced.clause; named = named_still [] h forced.clause forced.named; left = forced.left };
            };
      }

  pub kept_still : (levels : List Level) (marks : Marks) (entries : List Entry) → IsKept old levels marks entries → IsKept new levels marks entries
  kept_still levels marks entries here = record { trail = λ some. trail_still marks entries (here.trail some); places = here.places; front = here.front }
