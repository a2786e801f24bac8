-- Lists of literals of distinct booleans: their fronts, and what one literal more needs.
use Rattle.std.proofs.Common.{◌≡◌, ◌⊎◌, ℕ, ◌<◌, Bool, true, false, not, ◌&&◌, ◌||◌, nat_eq, nat_lt, List, [], ◌∷◌, ◌++◌, take, drop, refl, sym, ap, subst, ◌∙◌, arith, inl, inr, Contains}
use Rattle.std.specs.List.{list_all}
use Rattle.std.proofs.lemmas.Bool.Decides.{nat_tests}
use Rattle.std.proofs.lemmas.List.{take-append-drop}
use Rattle.std.proofs.lemmas.List.Folds.{list_any-append, list_all-append}
use Rattle.lv_base.specs.declared.ids.Lit.{Lit}
use Rattle.lv_clauses.specs.Literals.{neg, same_truth, same_var, in_range, distinct, is_clause}
use Rattle.lv_clauses.proofs.LiteralLemmas.{lit_of, neg_other, and_left, and_right, and_both, any_member, member_any, all_member, Contains-head, Contains-tail, Contains-cases}
use Rattle.lv_clauses.proofs.MarkLemmas.{same_truth-equal, same_truth-self}
use Rattle.lv_trail.specs.Trail.{same_lit, among}

pub eq_is : (a b : ℕ) → a ≡ b → nat_eq a b ≡ true
eq_is a b e = grind (arith, nat_tests)

pub eq_isnt : (a b : ℕ) → (a ≡ b → ⊥) → nat_eq a b ≡ false
eq_isnt a b e = grind (arith, nat_tests)

pub eq_from : (a b : ℕ) → nat_eq a b ≡ true → a ≡ b
eq_from a b e = grind (arith, nat_tests)

pub lt_from : (a b : ℕ) → nat_lt a b ≡ true → a < b
lt_from a b e = grind (arith, nat_tests)

pub lt_is : (a b : ℕ) → a < b → nat_lt a b ≡ true
lt_is a b h = grind (arith, nat_tests)

pub same_lit-equal : (a b : Lit) → same_lit a b ≡ true → a ≡ b
same_lit-equal a b e =
    lit_of a b (eq_from a.var.0 b.var.0 (and_left (same_var a b) (same_truth a.sign b.sign) e)) (same_truth-equal a.sign b.sign (and_right (same_var a b) (same_truth a.sign b.sign) e))

pub same_lit-self : (a : Lit) → same_lit a a ≡ true
same_lit-self a = and_both (same_var a a) (same_truth a.sign a.sign) (eq_is a.var.0 a.var.0 refl) (same_truth-self a.sign)

pub among_member : (ls : List Lit) (l : Lit) → Contains ls l → among ls l ≡ true
among_member ls l h = member_any (λ k. same_lit k l) ls l h (same_lit-self l)

pub among_contained : (ls : List Lit) (l : Lit) → among ls l ≡ true → Contains ls l
among_contained ls l e = let found = any_member (λ k. same_lit k l) ls e in subst (Contains ls) (same_lit-equal found.0 l found.2) found.1

or_false : (b : Bool) → (b || false) ≡ b
or_false true = refl
or_false false = refl

pub among_push : (ls : List Lit) (k l : Lit) → among (ls ++ k ∷ []) l ≡ (among ls l || same_lit k l)
among_push ls k l = list_any-append (λ m. same_lit m l) ls (k ∷ []) ∙ ap (λ b. among ls l || b) (or_false (same_lit k l))

pub all_from : {X : Type 0} (p : X → Bool) (xs : List X) → ((x : X) → Contains xs x → p x ≡ true) → list_all p xs ≡ true
all_from p [] each = refl
all_from p (x ∷ xs) each = and_both (p x) (list_all p xs) (each x (Contains-head x xs)) (all_from p xs (λ y h. each y (Contains-tail x y xs h)))

all_front : {X : Type 0} (p : X → Bool) (xs ys : List X) → list_all p (xs ++ ys) ≡ true → list_all p xs ≡ true
all_front p xs ys e = and_left (list_all p xs) (list_all p ys) (sym (list_all-append p xs ys) ∙ e)

pub not_true : (b : Bool) → not b ≡ true → b ≡ true → ⊥
not_true true e f = cc
not_true false e f = cc

pub distinct_front : (xs ys : List Lit) → distinct (xs ++ ys) ≡ true → distinct xs ≡ true
distinct_front [] ys e = refl
distinct_front (x ∷ xs) ys e =
    and_both (list_all (λ m. not (same_var x m)) xs) (distinct xs) (all_front (λ m. not (same_var x m)) xs ys (and_left (list_all (λ m. not (same_var x m)) (xs ++ ys)) (distinct (xs ++ ys)) e))
    (distinct_front xs ys (and_right (list_all (λ m. not (same_var x m)) (xs ++ ys)) (distinct (xs ++ ys)) e))

pub distinct_last : (xs : List Lit) (l m : Lit) → distinct (xs ++ l ∷ []) ≡ true → Contains xs m → m.var.0 ≡ l.var.0 → ⊥
distinct_last [] l m e h same = absurd (omega (arith, h.1))
distinct_last (x ∷ xs) l m e h same = by_place (Contains-cases x m xs h) (λ more. distinct_last xs l m (and_right (list_all (λ k. not (same_var x k)) (xs ++ l ∷ [])) (distinct (xs ++ l ∷ [])) e) more same)
  where
    by_place : (x ≡ m) ⊎ Contains xs m → (Contains xs m → ⊥) → ⊥
    by_place (inl is) rest =
        not_true (same_var x l)
        (and_left (not (same_var x l)) true (and_right (list_all (λ k. not (same_var x k)) xs) (not (same_var x l) && true) (sym (list_all-append (λ k. not (same_var x k)) xs (l ∷ [])) ∙ and_left (list_all (λ k. not (same_var x k)) (xs ++ l ∷ [])) (distinct (xs ++ l ∷ [])) e)))
        (eq_is x.var.0 l.var.0 (ap (λ (k : Lit). k.var.0) is ∙ same))
    by_place (inr more) rest = rest more

pub distinct_push : (xs : List Lit) (l : Lit) → distinct xs ≡ true → ((m : Lit) → Contains xs m → m.var.0 ≡ l.var.0 → ⊥) → distinct (xs ++ l ∷ []) ≡ true
distinct_push [] l e apart = refl
distinct_push (x ∷ xs) l e apart =
    and_both (list_all (λ m. not (same_var x m)) (xs ++ l ∷ [])) (distinct (xs ++ l ∷ []))
    (list_all-append (λ m. not (same_var x m)) xs (l ∷ []) ∙ and_both (list_all (λ m. not (same_var x m)) xs) (not (same_var x l) && true) (and_left (list_all (λ m. not (same_var x m)) xs) (distinct xs) e) (ap (λ b. not b && true) (eq_isnt x.var.0 l.var.0 (apart x (Contains-head x xs)))))
    (distinct_push xs l (and_right (list_all (λ m. not (same_var x m)) xs) (distinct xs) e) (λ m h. apart m (Contains-tail x m xs h)))

-- a literal and its negation don't both stand among distinct booleans
distinct_sides : (xs : List Lit) (l m : Lit) → distinct xs ≡ true → Contains xs l → Contains xs m → m.var.0 ≡ l.var.0 → l ≡ m
distinct_sides [] l m e p q same = absurd (omega (arith, p.1))
distinct_sides (x ∷ xs) l m e p q same =
    by_place (Contains-cases x l xs p) (Contains-cases x m xs q) (λ more other. distinct_sides xs l m (and_right (list_all (λ k. not (same_var x k)) xs) (distinct xs) e) more other same)
  where
    never : (k : Lit) → Contains xs k → x.var.0 ≡ k.var.0 → ⊥
    never k h f = not_true (same_var x k) (all_member (λ j. not (same_var x j)) xs k (and_left (list_all (λ j. not (same_var x j)) xs) (distinct xs) e) h) (eq_is x.var.0 k.var.0 f)

    by_place : (x ≡ l) ⊎ Contains xs l → (x ≡ m) ⊎ Contains xs m → (Contains xs l → Contains xs m → l ≡ m) → l ≡ m
    by_place (inl a) (inl b) rest = sym a ∙ b
    by_place (inl a) (inr b) rest = absurd (never m b (ap (λ (k : Lit). k.var.0) a ∙ sym same))
    by_place (inr a) (inl b) rest = absurd (never l a (ap (λ (k : Lit). k.var.0) b ∙ same))
    by_place (inr a) (inr b) rest = rest a b

module _ (n : ℕ) where
  pub clause_sides : (ls : List Lit) (l : Lit) → is_clause n ls ≡ true → Contains ls l → Contains ls (neg l) → ⊥
  clause_sides ls l e p q = neg_other l (sym (distinct_sides ls l (neg l) (and_right (list_all (in_range n) ls) (distinct ls) e) p q refl))

  pub clause_range : (ls : List Lit) (l : Lit) → is_clause n ls ≡ true → Contains ls l → l.var.0 < n
  clause_range ls l e h = lt_from l.var.0 n (all_member (in_range n) ls l (and_left (list_all (in_range n) ls) (distinct ls) e) h)

  pub clause_front : (xs ys : List Lit) → is_clause n (xs ++ ys) ≡ true → is_clause n xs ≡ true
  clause_front xs ys e =
      and_both (list_all (in_range n) xs) (distinct xs) (all_front (in_range n) xs ys (and_left (list_all (in_range n) (xs ++ ys)) (distinct (xs ++ ys)) e))
      (distinct_front xs ys (and_right (list_all (in_range n) (xs ++ ys)) (distinct (xs ++ ys)) e))

  pub clause_take : (k : ℕ) (xs : List Lit) → is_clause n xs ≡ true → is_clause n (take k xs) ≡ true
  clause_take k xs e = clause_front (take k xs) (drop k xs) (ap (is_clause n) (take-append-drop k xs) ∙ e)

  pub clause_last : (xs : List Lit) (l m : Lit) → is_clause n (xs ++ l ∷ []) ≡ true → Contains xs m → m.var.0 ≡ l.var.0 → ⊥
  clause_last xs l m e h same = distinct_last xs l m (and_right (list_all (in_range n) (xs ++ l ∷ [])) (distinct (xs ++ l ∷ [])) e) h same

  pub clause_push : (xs : List Lit) (l : Lit) → is_clause n xs ≡ true → in_range n l ≡ true → ((m : Lit) → Contains xs m → m.var.0 ≡ l.var.0 → ⊥) → is_clause n (xs ++ l ∷ []) ≡ true
  clause_push xs l e within apart =
      and_both (list_all (in_range n) (xs ++ l ∷ [])) (distinct (xs ++ l ∷ []))
      (list_all-append (in_range n) xs (l ∷ []) ∙ and_both (list_all (in_range n) xs) (in_range n l && true) (and_left (list_all (in_range n) xs) (distinct xs) e) (ap (λ b. b && true) within))
      (distinct_push xs l (and_right (list_all (in_range n) xs) (distinct xs) e) apart)
