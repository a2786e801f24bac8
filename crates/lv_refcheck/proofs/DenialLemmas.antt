-- A clause is one over the booleans exactly where each of its literals in turn is unmarked when those before it are
-- denied.
use Rattle.std.proofs.Common.{◌≡◌, ℕ, ◌+◌, ◌<◌, Bool, true, false, not, ◌&&◌, nat_eq, nat_lt, List, [], ◌∷◌, length, get_or, set, drop, Option, Some, None, is_none, refl, sym, ap, ap₂, ◌∙◌, arith, inl, inr}
use Rattle.std.specs.List.{list_all}
use Rattle.std.proofs.lemmas.Bool.{cases_eq}
use Rattle.std.proofs.lemmas.Bool.Decides.{nat_tests}
use Rattle.std.proofs.lemmas.List.{get_or-set_same, get_or-set_other, length-set, drop_more, get_or-replicate, length-replicate}
use Rattle.lv_base.specs.declared.ids.Lit.{Lit}
use Rattle.lv_clauses.specs.Literals.{neg, same_var, in_range, distinct, is_clause}
use Rattle.lv_clauses.specs.Marks.{Marks, nothing, marked, is_free}
use Rattle.lv_clauses.proofs.LiteralLemmas.{and_left}
use Rattle.lv_clauses.specs.Following.{denied}
use Rattle.lv_clauses.specs.Noted.{is_open}

-- the literals are of distinct booleans, in range and unmarked
abbrev pub fits : Marks → List Lit → Bool
fits marks ls = list_all (is_open marks) ls && distinct ls

and_false : (b : Bool) → (b && false) ≡ false
and_false true = refl
and_false false = refl

and_true : (b : Bool) → (b && true) ≡ b
and_true true = refl
and_true false = refl

open_within : (marks : Marks) (l : Lit) → is_open marks l ≡ true → l.var.0 < length marks
open_within marks l e = grind (arith, nat_tests, and_left (in_range (length marks) l) (is_free marks l) e)

eq_is : (a b : ℕ) → a ≡ b → nat_eq a b ≡ true
eq_is a b e = grind (arith, nat_tests)

eq_isnt : (a b : ℕ) → (a ≡ b → ⊥) → nat_eq a b ≡ false
eq_isnt a b e = grind (arith, nat_tests)

-- a literal is open behind an open one that was denied exactly where it was open before and is of another boolean
open_after : (marks : Marks) (l m : Lit) → is_open marks l ≡ true → is_open (marked marks (neg l)) m ≡ (is_open marks m && not (same_var l m))
open_after marks l m e = elim (cases_eq l.var.0 m.var.0) [
  | inl same ↦
      let now : get_or (set marks l.var.0 (Some (not l.sign))) m.var.0 None ≡ Some (not l.sign) =
      ap (λ k. get_or (set marks l.var.0 (Some (not l.sign))) k None) (sym same) ∙ get_or-set_same marks l.var.0 (Some (not l.sign)) None (open_within marks l e) in
      ap (λ (o : Option Bool). in_range (length (marked marks (neg l))) m && is_none o) now
      ∙ and_false (in_range (length (marked marks (neg l))) m)
      ∙ sym (ap (λ b. is_open marks m && not b) (eq_is l.var.0 m.var.0 same) ∙ and_false (is_open marks m))
  | inr differs ↦
      let now : get_or (set marks l.var.0 (Some (not l.sign))) m.var.0 None ≡ get_or marks m.var.0 None =
      get_or-set_other marks l.var.0 m.var.0 (Some (not l.sign)) None (λ f. differs (sym f)) in
      ap₂ (λ n (o : Option Bool). nat_lt m.var.0 n && is_none o) (length-set marks l.var.0 (Some (not l.sign))) now
      ∙ sym (ap (λ b. is_open marks m && not b) (eq_isnt l.var.0 m.var.0 differs) ∙ and_true (is_open marks m))
]

all_after : (marks : Marks) (l : Lit) (ls : List Lit) → is_open marks l ≡ true → list_all (is_open (marked marks (neg l))) ls ≡ (list_all (is_open marks) ls && list_all (λ m. not (same_var l m)) ls)
all_after marks l [] e = refl
all_after marks l (m ∷ ms) e =
    ap₂ (λ a b. a && b) (open_after marks l m e) (all_after marks l ms e)
    ∙ regroup (is_open marks m) (not (same_var l m)) (list_all (is_open marks) ms) (list_all (λ k. not (same_var l k)) ms)
  where
    regroup : (a b c d : Bool) → ((a && b) && (c && d)) ≡ ((a && c) && (b && d))
    regroup true true c d = refl
    regroup true false true d = refl
    regroup true false false d = refl
    regroup false b c d = refl

-- one step of denying
pub fits-cons : (marks : Marks) (l : Lit) (ls : List Lit) → is_open marks l ≡ true → fits (marked marks (neg l)) ls ≡ fits marks (l ∷ ls)
fits-cons marks l ls e =
    ap (λ b. b && distinct ls) (all_after marks l ls e)
    ∙ and_assoc (list_all (is_open marks) ls) (list_all (λ m. not (same_var l m)) ls) (distinct ls)
    ∙ sym (ap (λ b. (b && list_all (is_open marks) ls) && (list_all (λ m. not (same_var l m)) ls && distinct ls)) e)
  where
    and_assoc : (a b c : Bool) → ((a && b) && c) ≡ (a && (b && c))
    and_assoc true b c = refl
    and_assoc false b c = refl

pub fits-shut : (marks : Marks) (l : Lit) (ls : List Lit) → is_open marks l ≡ false → fits marks (l ∷ ls) ≡ false
fits-shut marks l ls e = ap (λ b. (b && list_all (is_open marks) ls) && (list_all (λ m. not (same_var l m)) ls && distinct ls)) e

-- where nothing is marked only the ranges count
open_of_nothing : (bools : ℕ) (l : Lit) → is_open (nothing bools) l ≡ in_range bools l
open_of_nothing bools l = rw (length-replicate {A = Option Bool} bools None) (within (nat_lt l.var.0 bools) refl)
  where
    within : (b : Bool) → nat_lt l.var.0 bools ≡ b → (nat_lt l.var.0 bools && is_free (nothing bools) l) ≡ nat_lt l.var.0 bools
    within true e =
        let none : get_or (nothing bools) l.var.0 None ≡ None = get_or-replicate bools l.var.0 None None (grind (arith, nat_tests)) in
        ap (λ (o : Option Bool). nat_lt l.var.0 bools && is_none o) none ∙ and_true (nat_lt l.var.0 bools)
    within false e = ap (λ b. b && is_free (nothing bools) l) e ∙ sym e

pub fits-nothing : (bools : ℕ) (ls : List Lit) → fits (nothing bools) ls ≡ is_clause bools ls
fits-nothing bools ls = ap (λ b. b && distinct ls) (every ls)
  where
    every : (ms : List Lit) → list_all (is_open (nothing bools)) ms ≡ list_all (in_range bools) ms
    every [] = refl
    every (m ∷ ms) = ap₂ (λ a b. a && b) (open_of_nothing bools m) (every ms)

-- one step of the loop that denies
pub record Goes (before after : Marks) (clause : List Lit) (i : ℕ) : Type 0 where
  pub fits : fits after (drop (i + 1) clause) ≡ fits before (drop i clause)
  pub denied : denied after (drop (i + 1) clause) ≡ denied before (drop i clause)
  pub len : length after ≡ length before

pub goes : (before after : Marks) (clause : List Lit) (i : ℕ) (d : Lit) → i < length clause → is_open before (get_or clause i d) ≡ true → after ≡ marked before (neg (get_or clause i d)) → Goes before after clause i
goes before after clause i d within e now =
    let l : Lit = get_or clause i d in
    let split : drop i clause ≡ l ∷ drop (i + 1) clause = drop_more clause i d within in
    record {
      fits = ap (λ (m : Marks). fits m (drop (i + 1) clause)) now ∙ fits-cons before l (drop (i + 1) clause) e ∙ sym (ap (fits before) split);
      denied = ap (λ (m : Marks). denied m (drop (i + 1) clause)) now ∙ sym (ap (denied before) split);
      len = ap (λ (m : Marks). length m) now ∙ length-set before l.var.0 (Some (not l.sign));
    }
