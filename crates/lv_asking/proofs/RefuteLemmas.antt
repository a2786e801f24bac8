-- What a refutation says of the literals of its core.
use Rattle.std.proofs.Common.{◌≡◌, ℕ, suc, zero, ◌+◌, ◌<◌, ◌≤◌, Bool, true, false, not, nat_eq, ◌&&◌, List, [], ◌∷◌, ◌++◌, length, map, take, get_or, Option, Some, None, cond, refl, sym, subst, ap, ◌∙◌, arith, ◌⊎◌, inl, inr, Contains}
use Rattle.std.specs.List.{list_all}
use Rattle.std.proofs.lemmas.Bool.{and_parts, and_from, ltb-true}
use Rattle.std.proofs.lemmas.List.{get_or-set_same, get_or-set_other, length-set, take_more, take_all}
use Rattle.std.proofs.lemmas.List.Folds.{list_all-append}
use Rattle.lv_base.specs.declared.ids.Lit.{Lit}
use Rattle.lv_clauses.specs.Literals.{neg, same_truth, same_var, in_range, distinct, is_clause, lit_holds, clause_holds}
use Rattle.lv_clauses.specs.ClauseMap.{ClauseMap}
use Rattle.lv_clauses.specs.Marks.{Marks, nothing, is_marked, marked, mark_is}
use Rattle.lv_clauses.proofs.LiteralLemmas.{any_member, all_member, lit_or_neg, Contains-cases, Contains-tail, Contains-head, Contains-nil}
use Rattle.lv_sat.specs.Answers.{IsSublist, nothing as no_literals, left_out, taken}
use Rattle.lv_asking.specs.Refutation.{HasNoModel, marked_literals}
use Rattle.lv_asking.specs.Replies.{IsCore}

-- marks of so many booleans, among which those of these literals are
pub record AreMarked (bools : ℕ) (lits : List Lit) (marks : Marks) : Type 0 where
  pub len : length marks ≡ bools
  pub all : list_all (is_marked marks) lits ≡ true

length_of_nothing : (n : ℕ) → length (nothing n) ≡ n
length_of_nothing zero = refl
length_of_nothing (suc n) = let ih = length_of_nothing n in omega (arith, ih)

pub marked_first : (bools : ℕ) (lits : List Lit) (marks : Marks) → marks ≡ nothing bools → AreMarked bools (take 0 lits) marks
marked_first bools lits marks is = record { len = ap (λ (m : Marks). length m) is ∙ length_of_nothing bools; all = refl }

mark_of : (marks : Marks) (l : Lit) → l.var.0 < length marks → is_marked (marked marks l) l ≡ true
mark_of marks l below = ap (λ (o : Option Bool). mark_is o l.sign) (get_or-set_same marks l.var.0 (Some l.sign) None below) ∙ itself l.sign
  where
    itself : (b : Bool) → same_truth b b ≡ true
    itself true = refl
    itself false = refl

-- marks of other booleans stay
all_stay : (marks : Marks) (l : Lit) (ls : List Lit) → list_all (λ (m : Lit). not (same_var m l)) ls ≡ true → list_all (is_marked marks) ls ≡ true → list_all (is_marked (marked marks l)) ls ≡ true
all_stay marks l [] apart h = refl
all_stay marks l (m ∷ ms) apart h =
    let others = and_parts (not (same_var m l)) (list_all (λ (n : Lit). not (same_var n l)) ms) apart in
    let two = and_parts (is_marked marks m) (list_all (is_marked marks) ms) h in
    and_from (is_marked (marked marks l) m) (list_all (is_marked (marked marks l)) ms)
    (ap (λ (o : Option Bool). mark_is o m.sign) (get_or-set_other marks l.var.0 m.var.0 (Some l.sign) None (other (nat_eq m.var.0 l.var.0) refl others.0)) ∙ two.0)
    (all_stay marks l ms others.1 two.1)
  where
    other : (b : Bool) → nat_eq m.var.0 l.var.0 ≡ b → not b ≡ true → m.var.0 ≡ l.var.0 → ⊥
    other true e isnt same = absurd (cc isnt)
    other false e isnt same = let clash : nat_eq m.var.0 l.var.0 ≡ true = eq_is m.var.0 l.var.0 same in let both : true ≡ false = sym clash ∙ e in absurd (cc both)
      where
        eq_is : (a b : ℕ) → a ≡ b → nat_eq a b ≡ true
        eq_is a b is = grind (arith, is)

-- of distinct literals the one at a place is apart from those before it
apart_before : (ls : List Lit) (i : ℕ) (d : Lit) → i < length ls → distinct ls ≡ true → list_all (λ (m : Lit). not (same_var m (get_or ls i d))) (take i ls) ≡ true
apart_before [] i d inside h = absurd (omega (arith, inside))
apart_before (l ∷ ls) zero d inside h = refl
apart_before (l ∷ ls) (suc i) d inside h =
    let two = and_parts (list_all (λ (m : Lit). not (same_var l m)) ls) (distinct ls) h in
    and_from (not (same_var l (get_or ls i d))) (list_all (λ (m : Lit). not (same_var m (get_or ls i d))) (take i ls))
    (at_place (λ (m : Lit). not (same_var l m)) ls i d (omega (arith, inside)) two.0) (apart_before ls i d (omega (arith, inside)) two.1)
  where
    at_place : (p : Lit → Bool) (xs : List Lit) (k : ℕ) (e : Lit) → k < length xs → list_all p xs ≡ true → p (get_or xs k e) ≡ true
    at_place p [] k e within all = absurd (omega (arith, within))
    at_place p (x ∷ xs) zero e within all = (and_parts (p x) (list_all p xs) all).0
    at_place p (x ∷ xs) (suc k) e within all = at_place p xs k e (omega (arith, within)) (and_parts (p x) (list_all p xs) all).1

place_in_range : (bools : ℕ) (ls : List Lit) (i : ℕ) (d : Lit) → i < length ls → list_all (in_range bools) ls ≡ true → (get_or ls i d).var.0 < bools
place_in_range bools [] i d inside h = absurd (omega (arith, inside))
place_in_range bools (l ∷ ls) zero d inside h = ltb-true l.var.0 bools (and_parts (in_range bools l) (list_all (in_range bools) ls) h).0
place_in_range bools (l ∷ ls) (suc i) d inside h = place_in_range bools ls i d (omega (arith, inside)) (and_parts (in_range bools l) (list_all (in_range bools) ls) h).1

pub marked_next : (bools : ℕ) (lits : List Lit) (i : ℕ) (d : Lit) (marks after : Marks) → i < length lits → is_clause bools lits ≡ true → AreMarked bools (take i lits) marks
    → after ≡ marked marks (get_or lits i d) → AreMarked bools (take (i + 1) lits) after
marked_next bools lits i d marks after inside clause h is =
    let l : Lit = get_or lits i d in
    let parts = and_parts (list_all (in_range bools) lits) (distinct lits) clause in
    let few : l.var.0 < bools = place_in_range bools lits i d inside parts.0 in
    let len : length marks ≡ bools = h.len in
    let within : l.var.0 < length marks = omega (arith, few, len) in
    record {
      len = ap (λ (m : Marks). length m) is ∙ length-set marks l.var.0 (Some l.sign) ∙ len;
      all =
          ap (λ (m : Marks). list_all (is_marked m) (take (i + 1) lits)) is
          ∙ ap (list_all (is_marked (marked marks l))) (take_more lits i d inside)
          ∙ list_all-append (is_marked (marked marks l)) (take i lits) (l ∷ [])
          ∙ and_from (list_all (is_marked (marked marks l)) (take i lits)) (is_marked (marked marks l) l && true)
          (all_stay marks l (take i lits) (apart_before lits i d inside parts.1) h.all) (and_from (is_marked (marked marks l) l) true (mark_of marks l within) refl);
    }

pub marked_all : (bools : ℕ) (lits : List Lit) (i : ℕ) (marks : Marks) → length lits ≤ i → AreMarked bools (take i lits) marks → list_all (is_marked marks) lits ≡ true
marked_all bools lits i marks done h = sym (ap (list_all (is_marked marks)) (take_all i lits done)) ∙ h.all

-- what all of a list pass, all of a part pass
part_passes : (p : Lit → Bool) (core whole : List Lit) → IsSublist core whole → list_all p whole ≡ true → list_all p core ≡ true
part_passes p _ _ no_literals h = refl
part_passes p core _ (left_out {whole = ls} l s) h = part_passes p core ls s (and_parts (p l) (list_all p ls) h).1
part_passes p _ _ (taken {core = cs} {whole = ls} l s) h =
    let two = and_parts (p l) (list_all p ls) h in
    and_from (p l) (list_all p cs) two.0 (part_passes p cs ls s two.1)

part_is_distinct : (core whole : List Lit) → IsSublist core whole → distinct whole ≡ true → distinct core ≡ true
part_is_distinct _ _ no_literals h = refl
part_is_distinct core _ (left_out {whole = ls} l s) h = part_is_distinct core ls s (and_parts (list_all (λ (m : Lit). not (same_var l m)) ls) (distinct ls) h).1
part_is_distinct _ _ (taken {core = cs} {whole = ls} l s) h =
    let two = and_parts (list_all (λ (m : Lit). not (same_var l m)) ls) (distinct ls) h in
    and_from (list_all (λ (m : Lit). not (same_var l m)) cs) (distinct cs) (part_passes (λ (m : Lit). not (same_var l m)) cs ls s two.0) (part_is_distinct cs ls s two.1)

-- a part of a clause is a clause
pub core_is_clause : (bools : ℕ) (core whole : List Lit) → IsSublist core whole → is_clause bools whole ≡ true → is_clause bools core ≡ true
core_is_clause bools core whole s h =
    let two = and_parts (list_all (in_range bools) whole) (distinct whole) h in
    and_from (list_all (in_range bools) core) (distinct core) (part_passes (in_range bools) core whole s two.0) (part_is_distinct core whole s two.1)

in_whole : (core whole : List Lit) → IsSublist core whole → (l : Lit) → Contains core l → Contains whole l
in_whole _ _ no_literals l h = h
in_whole core _ (left_out {whole = ls} m s) l h = Contains-tail m l ls (in_whole core ls s l h)
in_whole _ _ (taken {core = cs} {whole = ls} m s) l h = elim (Contains-cases m l cs h) [
  | inl same ↦ subst (λ (x : Lit). Contains (m ∷ ls) x) same (Contains-head m ls)
  | inr rest ↦ Contains-tail m l ls (in_whole cs ls s l rest)
]

-- a negated literal of a list is the negation of one of them
negated : (ls : List Lit) (m : Lit) → Contains (map neg ls) m → (l : Lit) × Contains ls l × (m ≡ neg l)
negated [] m h = absurd (Contains-nil m h)
negated (l ∷ ls) m h = elim (Contains-cases (neg l) m (map neg ls) h) [
  | inl same ↦ (l, Contains-head l ls, sym same)
  | inr rest ↦ let later = negated ls m rest in (later.0, Contains-tail l later.0 ls later.1, later.2)
]

-- a marked one is among the marked ones
among_marked : (marks : Marks) (ls : List Lit) (l : Lit) → Contains ls l → is_marked marks l ≡ true → Contains (marked_literals marks ls) l
among_marked marks [] l h mark = absurd (Contains-nil l h)
among_marked marks (m ∷ ms) l h mark = by (Contains-cases m l ms h) (is_marked marks m) refl (λ rest. among_marked marks ms l rest mark)
  where
    by : (m ≡ l) ⊎ Contains ms l → (b : Bool) → is_marked marks m ≡ b → (Contains ms l → Contains (marked_literals marks ms) l)
        → Contains (cond b (m ∷ marked_literals marks ms) (marked_literals marks ms)) l
    by (inl same) true e later = subst (λ (x : Lit). Contains (m ∷ marked_literals marks ms) x) same (Contains-head m (marked_literals marks ms))
    by (inl same) false e later = let clash : true ≡ false = sym mark ∙ ap (is_marked marks) (sym same) ∙ e in absurd (cc clash)
    by (inr rest) true e later = Contains-tail m l (marked_literals marks ms) (later rest)
    by (inr rest) false e later = later rest

-- no values make the marked ones of the chosen and all assumed ones true, where the core is marked and what was asked is these two
pub none_with_core : (set : ClauseMap) (chosen assumed whole core : List Lit) (marks : Marks) → ((l : Lit) → Contains whole l → Contains chosen l ⊎ Contains assumed l)
    → IsCore set whole core → list_all (is_marked marks) core ≡ true → HasNoModel set (marked_literals marks chosen ++ assumed)
none_with_core set chosen assumed whole core marks one_of refuted all values model =
    let last : clause_holds values (map neg core) ≡ true = refuted.denied values model.all_clauses model.len in
    let found = any_member (lit_holds values) (map neg core) last in
    let own = negated core found.0 found.1 in
    let denied : lit_holds values (neg own.0) ≡ true = ap (lit_holds values) (sym own.2) ∙ found.2 in
    lit_or_neg values own.0 (holds own.0 own.1 (one_of own.0 (in_whole core whole refuted.part own.0 own.1))) denied
  where
    both : (list_all (lit_holds values) (marked_literals marks chosen) ≡ true) × (list_all (lit_holds values) assumed ≡ true)
    both =
        and_parts (list_all (lit_holds values) (marked_literals marks chosen)) (list_all (lit_holds values) assumed)
        (sym (list_all-append (lit_holds values) (marked_literals marks chosen) assumed) ∙ model.all_assumptions)

    holds : (l : Lit) → Contains core l → Contains chosen l ⊎ Contains assumed l → lit_holds values l ≡ true
    holds l inside (inl c) = all_member (lit_holds values) (marked_literals marks chosen) l both.0 (among_marked marks chosen l c (all_member (is_marked marks) core l all inside))
    holds l inside (inr a) = all_member (lit_holds values) assumed l both.1 a
