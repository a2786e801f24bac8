-- Literals that are looked at one by one, of which each is noted once.
use Rattle.std.proofs.Common.{◌≡◌, ℕ, suc, zero, ◌+◌, ◌<◌, ◌≤◌, Bool, true, false, not, nat_eq, nat_lt, ◌&&◌, ◌||◌, List, [], ◌∷◌, ◌++◌, length, take, get_or, Option, Some, None, is_some, is_none, cond, refl, sym, subst, ap, ap₂, ◌∙◌, arith, ◌⊎◌, inl, inr, ⊎_elim, All}
use Rattle.std.specs.List.{list_any, list_all}
use Rattle.std.proofs.lemmas.Bool.{cases_eq, and_parts, and_from, or_cases, eqb-true, eq-eqb, lt-ltb}
use Rattle.std.proofs.lemmas.Bool.Decides.{nat_tests}
use Rattle.std.proofs.lemmas.List.{get_or-set_same, get_or-set_other, length-set, take_more, take_all}
use Rattle.std.proofs.lemmas.List.Folds.{list_any-append, list_all-append}
use Rattle.lv_base.specs.declared.ids.Lit.{Lit}
use Rattle.lv_clauses.specs.Literals.{same_var, in_range, distinct, lit_holds}
use Rattle.lv_clauses.specs.Marks.{Marks, nothing, marked, is_free}
use Rattle.lv_clauses.specs.Noted.{is_open, is_of}
use Rattle.lv_clauses.proofs.LiteralLemmas.{lit_of}
use Rattle.lv_asking.specs.Literals.{is_positive, IsPositive, IsOnce}

-- of the literals looked at each is noted, once; what is marked are the booleans of those noted
pub record IsNotedOnce (bools : ℕ) (lits : List Lit) (seen : Marks) (once : List Lit) : Type 0 where
  pub marks : length seen ≡ bools
  pub marked_is : (n : ℕ) → is_some (get_or seen n None) ≡ list_any (is_of n) once
  pub in_range_all : list_all (in_range bools) once ≡ true
  pub distinct_all : distinct once ≡ true
  pub positive : list_all is_positive once ≡ true
  pub says : (values : List Bool) → list_all (lit_holds values) once ≡ list_all (lit_holds values) lits

none_at : (n k : ℕ) → is_some (get_or (nothing n) k None) ≡ false
none_at zero k = refl
none_at (suc n) zero = refl
none_at (suc n) (suc k) = none_at n k

length_of_nothing : (n : ℕ) → length (nothing n) ≡ n
length_of_nothing zero = refl
length_of_nothing (suc n) = let ih = length_of_nothing n in omega (arith, ih)

pub none_noted : (bools : ℕ) (seen : Marks) (once : List Lit) → seen ≡ nothing bools → once ≡ [] → IsNotedOnce bools [] seen once
none_noted bools seen once unseen none =
    record {
      marks = ap (λ (m : Marks). length m) unseen ∙ length_of_nothing bools;
      marked_is = λ n. ap (λ (m : Marks). is_some (get_or m n None)) unseen ∙ none_at bools n ∙ sym (ap (list_any (is_of n)) none);
      in_range_all = ap (list_all (in_range bools)) none;
      distinct_all = ap distinct none;
      positive = ap (list_all is_positive) none;
      says = λ values. ap (list_all (lit_holds values)) none;
    }

eq_isnt : (a b : ℕ) → (a ≡ b → ⊥) → nat_eq a b ≡ false
eq_isnt a b e = grind (arith, nat_tests)

-- one more literal of a boolean that none of them is of
pub distinct_more : (ls : List Lit) (l : Lit) → distinct ls ≡ true → list_any (is_of l.var.0) ls ≡ false → distinct (ls ++ l ∷ []) ≡ true
distinct_more [] l h other = refl
distinct_more (m ∷ ms) l h other =
    let two = and_parts (list_all (λ (n : Lit). not (same_var m n)) ms) (distinct ms) h in
    let apart : nat_eq m.var.0 l.var.0 ≡ false = left_false (nat_eq m.var.0 l.var.0) (list_any (is_of l.var.0) ms) other in
    and_from (list_all (λ (n : Lit). not (same_var m n)) (ms ++ l ∷ [])) (distinct (ms ++ l ∷ []))
    (list_all-append (λ (n : Lit). not (same_var m n)) ms (l ∷ []) ∙ and_from (list_all (λ (n : Lit). not (same_var m n)) ms) (not (nat_eq m.var.0 l.var.0) && true) two.0 (rw apart refl))
    (distinct_more ms l two.1 (right_false (nat_eq m.var.0 l.var.0) (list_any (is_of l.var.0) ms) other))
  where
    left_false : (a b : Bool) → (a || b) ≡ false → a ≡ false
    left_false true b e = e
    left_false false b e = refl

    right_false : (a b : Bool) → (a || b) ≡ false → b ≡ false
    right_false true b e = absurd (cc e)
    right_false false b e = e

-- a literal that stands there says nothing new
says_no_more : (values : List Bool) (ls : List Lit) (l : Lit) → list_any (is_of l.var.0) ls ≡ true → list_all is_positive ls ≡ true → l.sign ≡ true
    → list_all (lit_holds values) ls ≡ (list_all (lit_holds values) ls && lit_holds values l)
says_no_more values [] l there positive sign = absurd (cc there)
says_no_more values (m ∷ ms) l there positive sign =
    ⊎_elim here (λ e. behind (says_no_more values ms l e two.1 sign)) (or_cases (is_of l.var.0 m) (list_any (is_of l.var.0) ms) there)
  where
    two : (m.sign ≡ true) × (list_all is_positive ms ≡ true)
    two = and_parts m.sign (list_all is_positive ms) positive

    twice : (a b : Bool) → (a && b) ≡ ((a && b) && a)
    twice true true = refl
    twice true false = refl
    twice false b = refl

    deep : (a b c : Bool) → b ≡ (b && c) → (a && b) ≡ ((a && b) && c)
    deep true b c e = e
    deep false b c e = refl

    here : is_of l.var.0 m ≡ true → list_all (lit_holds values) (m ∷ ms) ≡ (list_all (lit_holds values) (m ∷ ms) && lit_holds values l)
    here e =
        let same : m ≡ l = lit_of m l (eqb-true m.var.0 l.var.0 e) (two.0 ∙ sym sign) in
        subst (λ (x : Lit). list_all (lit_holds values) (m ∷ ms) ≡ (list_all (lit_holds values) (m ∷ ms) && lit_holds values x)) same (twice (lit_holds values m) (list_all (lit_holds values) ms))

    behind : list_all (lit_holds values) ms ≡ (list_all (lit_holds values) ms && lit_holds values l) → list_all (lit_holds values) (m ∷ ms) ≡ (list_all (lit_holds values) (m ∷ ms) && lit_holds values l)
    behind e = deep (lit_holds values m) (list_all (lit_holds values) ms) (lit_holds values l) e

and_true : (b : Bool) → (b && true) ≡ b
and_true true = refl
and_true false = refl

or_false : (b : Bool) → (b || false) ≡ b
or_false true = refl
or_false false = refl

module _ (bools : ℕ) (lits : List Lit) (seen : Marks) (once : List Lit) (l : Lit) (h : IsNotedOnce bools lits seen once) (fits : IsPositive bools l) where
  below : l.var.0 < length seen
  below = let few : l.var.0 < bools = fits.below in let len : length seen ≡ bools = h.marks in omega (arith, few, len)

  more_holds : (values : List Bool) → list_all (lit_holds values) (lits ++ l ∷ []) ≡ (list_all (lit_holds values) once && lit_holds values l)
  more_holds values = list_all-append (lit_holds values) lits (l ∷ []) ∙ ap₂ (λ (a b : Bool). a && b) (sym (h.says values)) (and_true (lit_holds values l))

  -- its boolean was noted
  noted_before : is_open seen l ≡ false → IsNotedOnce bools (lits ++ l ∷ []) seen once
  noted_before shut =
      let there : list_any (is_of l.var.0) once ≡ true = sym (h.marked_is l.var.0) ∙ some (in_range (length seen) l) (get_or seen l.var.0 None) (lt-ltb l.var.0 (length seen) below) shut in
      record {
        marks = h.marks;
        marked_is = h.marked_is;
        in_range_all = h.in_range_all;
        distinct_all = h.distinct_all;
        positive = h.positive;
        says = λ values. says_no_more values once l there h.positive fits.sign ∙ sym (more_holds values);
      }
    where
      some : (b : Bool) (o : Option Bool) → b ≡ true → (b && is_none o) ≡ false → is_some o ≡ true
      some true None e shut = absurd (cc shut)
      some true (Some x) e shut = refl
      some false o e shut = absurd (cc e)

  noted_now : is_open seen l ≡ true → IsNotedOnce bools (lits ++ l ∷ []) (marked seen l) (once ++ l ∷ [])
  noted_now free =
      let none : list_any (is_of l.var.0) once ≡ false = sym (h.marked_is l.var.0) ∙ unmarked (get_or seen l.var.0 None) ((and_parts (in_range (length seen) l) (is_free seen l) free).1) in
      record {
        marks = length-set seen l.var.0 (Some l.sign) ∙ h.marks;
        marked_is = λ n. marks_now n (cases_eq n l.var.0);
        in_range_all = list_all-append (in_range bools) once (l ∷ []) ∙ and_from (list_all (in_range bools) once) (nat_lt l.var.0 bools && true) h.in_range_all (and_true (nat_lt l.var.0 bools) ∙ lt-ltb l.var.0 bools fits.below);
        distinct_all = distinct_more once l h.distinct_all none;
        positive = list_all-append is_positive once (l ∷ []) ∙ and_from (list_all is_positive once) (l.sign && true) h.positive (and_true l.sign ∙ fits.sign);
        says = λ values. list_all-append (lit_holds values) once (l ∷ []) ∙ ap (λ b. list_all (lit_holds values) once && b) (and_true (lit_holds values l)) ∙ sym (more_holds values);
      }
    where
      unmarked : (o : Option Bool) → is_none o ≡ true → is_some o ≡ false
      unmarked None e = refl
      unmarked (Some x) e = absurd (cc e)

      or_true : (a : Bool) → (a || true) ≡ true
      or_true true = refl
      or_true false = refl

      marks_now : (n : ℕ) → (n ≡ l.var.0) ⊎ (n ≡ l.var.0 → ⊥) → is_some (get_or (marked seen l) n None) ≡ list_any (is_of n) (once ++ l ∷ [])
      marks_now n (inl same) =
          ap (λ k. is_some (get_or (marked seen l) k None)) same
          ∙ ap is_some (get_or-set_same seen l.var.0 (Some l.sign) None below)
          ∙ sym (list_any-append (is_of n) once (l ∷ []) ∙ ap (λ b. list_any (is_of n) once || b) (or_false (nat_eq l.var.0 n) ∙ eq-eqb l.var.0 n (sym same)) ∙ or_true (list_any (is_of n) once))
      marks_now n (inr differs) =
          ap is_some (get_or-set_other seen l.var.0 n (Some l.sign) None differs)
          ∙ h.marked_is n
          ∙ sym (list_any-append (is_of n) once (l ∷ []) ∙ ap (λ b. list_any (is_of n) once || b) (or_false (nat_eq l.var.0 n) ∙ eq_isnt l.var.0 n (λ e. differs (sym e))) ∙ or_false (list_any (is_of n) once))

  -- one more literal is looked at
  noted_by : (b : Bool) → is_open seen l ≡ b → IsNotedOnce bools (lits ++ l ∷ []) (cond b (marked seen l) seen) (cond b (once ++ l ∷ []) once)
  noted_by true e = noted_now e
  noted_by false e = noted_before e

  pub noted_more : (after : Marks) (out : List Lit) → after ≡ cond (is_open seen l) (marked seen l) seen → out ≡ cond (is_open seen l) (once ++ l ∷ []) once → IsNotedOnce bools (lits ++ l ∷ []) after out
  noted_more after out marks_are out_is =
      subst (λ (m : Marks). IsNotedOnce bools (lits ++ l ∷ []) m out) (sym marks_are)
      (subst (λ (o : List Lit). IsNotedOnce bools (lits ++ l ∷ []) (cond (is_open seen l) (marked seen l) seen) o) (sym out_is) (noted_by (is_open seen l) refl))

-- the literal at this place is looked at
pub noted_next : (bools : ℕ) (lits : List Lit) (i : ℕ) (d : Lit) (seen after : Marks) (once out : List Lit) → i < length lits → All (IsPositive bools) lits
    → IsNotedOnce bools (take i lits) seen once → after ≡ cond (is_open seen (get_or lits i d)) (marked seen (get_or lits i d)) seen
    → out ≡ cond (is_open seen (get_or lits i d)) (once ++ get_or lits i d ∷ []) once → IsNotedOnce bools (take (i + 1) lits) after out
noted_next bools lits i d seen after once out inside fits h marks_are out_is =
    subst (λ (ls : List Lit). IsNotedOnce bools ls after out) (sym (take_more lits i d inside))
    (noted_more bools (take i lits) seen once (get_or lits i d) h (fits i d inside) after out marks_are out_is)

-- at the end all are
pub noted_all : (bools : ℕ) (lits : List Lit) (i : ℕ) (seen : Marks) (once : List Lit) → length lits ≤ i → IsNotedOnce bools (take i lits) seen once → IsOnce bools lits once
noted_all bools lits i seen once done h =
    record {
      clause = and_from (list_all (in_range bools) once) (distinct once) h.in_range_all h.distinct_all;
      says = λ values. h.says values ∙ ap (list_all (lit_holds values)) (take_all i lits done);
    }
