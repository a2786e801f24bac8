-- Literals that are assumed one by one, and what they say together.
use Rattle.std.proofs.Common.{◌≡◌, ◌+◌, ◌<◌, ◌≤◌, ℕ, Bool, true, false, not, ◌&&◌, ◌||◌, nat_eq, List, [], ◌∷◌, ◌++◌, length, drop, get_or, Option, Some, None, is_some, refl, sym, subst, ap, ap₂, ◌∙◌, arith, ◌⊎◌, inl, inr}
use Rattle.std.specs.List.{list_all, list_any}
use Rattle.std.proofs.lemmas.Bool.{cases_eq, and_parts, and_from, ltb-true, eq-eqb}
use Rattle.std.proofs.lemmas.Bool.Decides.{nat_tests}
use Rattle.std.proofs.lemmas.List.{get_or-set_same, get_or-set_other, length-set, drop_more, drop_all}
use Rattle.std.proofs.lemmas.List.Folds.{list_any-append, list_all-append}
use Rattle.lv_base.specs.declared.ids.Lit.{Lit}
use Rattle.lv_clauses.specs.Literals.{neg, in_range, distinct, is_clause, same_truth, lit_holds}
use Rattle.lv_clauses.specs.ClauseMap.{ClauseMap}
use Rattle.lv_clauses.specs.Marks.{Marks, nothing, mark_is, is_marked, marked}
use Rattle.lv_clauses.specs.Noted.{is_of}
use Rattle.lv_clauses.proofs.LiteralLemmas.{lit_of}
use Rattle.lv_sat.specs.declared.answer.Answer.{Answer}
use Rattle.lv_sat.specs.declared.answer.Answer.TheVariants.{Sat, Unsat}
use Rattle.lv_sat.specs.Answers.{Answers, IsRefutation, IsSatisfied}
use Rattle.lv_sat.specs.lv_clauses.declared.log.Step.{Step}
use Rattle.lv_ident.proofs.OnceLemmas.{IsNotedOnce, none_noted, distinct_more}
use Rattle.lv_plant_step.specs.Assuming.{Assumption, holds, AreMarked, SaysMore, Tells}

and_true : (b : Bool) → (b && true) ≡ b
and_true true = refl
and_true false = refl

or_false : (b : Bool) → (b || false) ≡ b
or_false true = refl
or_false false = refl

or_true : (b : Bool) → (b || true) ≡ true
or_true true = refl
or_true false = refl

-- nothing is assumed

no_mark : (o : Option Bool) (s : Bool) → is_some o ≡ false → mark_is o s ≡ true → ⊥
no_mark None s none is = cc is
no_mark (Some b) s none is = cc none

pub none_marked : (bools : ℕ) (marks : Marks) (lits : List Lit) → marks ≡ nothing bools → lits ≡ [] → AreMarked lits marks
none_marked bools marks lits unmarked none =
    let h : IsNotedOnce bools [] marks lits = none_noted bools marks lits unmarked none in
    record {
      clause = ap (is_clause (length marks)) none;
      each = λ l is test all. absurd (no_mark (get_or marks l.var.0 None) l.sign (h.marked_is l.var.0 ∙ ap (list_any (is_of l.var.0)) none) is);
      others = h.marked_is;
    }

pub none_long : (bools : ℕ) (marks : Marks) → marks ≡ nothing bools → length marks ≡ bools
none_long bools marks unmarked = let h : IsNotedOnce bools [] marks [] = none_noted bools marks [] unmarked refl in h.marks

-- a literal that is implied or denied

implied : (a b : Bool) → (a ≡ true → b ≡ true) → a ≡ (a && b)
implied true b h = sym (h refl)
implied false b h = refl

denied : (a b : Bool) → (a ≡ true → b ≡ false) → false ≡ (a && b)
denied true b h = sym (h refl)
denied false b h = refl

opposite : (a s : Bool) → same_truth a (not s) ≡ true → same_truth a s ≡ false
opposite true true h = absurd (cc h)
opposite true false h = refl
opposite false true h = refl
opposite false false h = absurd (cc h)

pub repeated_says : (s : Assumption) (marks : Marks) (l : Lit) → AreMarked s.lits marks → is_marked marks l ≡ true → SaysMore s s (λ values. lit_holds values l)
repeated_says s marks l m is =
    record {
      bools = refl;
      says =
          λ values.
          implied (holds values s) (lit_holds values l)
          (λ h. m.each l is (lit_holds values) ((and_parts (not s.has_clash) (list_all (lit_holds values) s.lits) h).1));
    }

pub clash_says : (s new : Assumption) (marks : Marks) (l : Lit) → AreMarked s.lits marks → is_marked marks (neg l) ≡ true → new ≡ record { bools = s.bools; lits = s.lits; has_clash = true }
    → SaysMore s new (λ values. lit_holds values l)
clash_says s new marks l m is same =
    record {
      bools = ap (λ (x : Assumption). x.bools) same;
      says =
          λ values.
          ap (holds values) same
          ∙ denied (holds values s) (lit_holds values l)
          (λ h. opposite (get_or values l.var.0 false) l.sign (m.each (neg l) is (lit_holds values) ((and_parts (not s.has_clash) (list_all (lit_holds values) s.lits) h).1)));
    }

-- a literal of a boolean of which none is assumed

unmarked_both : (o : Option Bool) (s : Bool) → mark_is o s ≡ false → mark_is o (not s) ≡ false → is_some o ≡ false
unmarked_both None s one other = refl
unmarked_both (Some true) true one other = absurd (cc one)
unmarked_both (Some true) false one other = absurd (cc other)
unmarked_both (Some false) true one other = absurd (cc other)
unmarked_both (Some false) false one other = absurd (cc one)

same_sign : (a b : Bool) → same_truth a b ≡ true → a ≡ b
same_sign true true h = refl
same_sign true false h = absurd (cc h)
same_sign false true h = absurd (cc h)
same_sign false false h = refl

eq_isnt : (a b : ℕ) → (a ≡ b → ⊥) → nat_eq a b ≡ false
eq_isnt a b e = grind (arith, nat_tests)

module _ (lits : List Lit) (marks : Marks) (m : AreMarked lits marks) (l : Lit) (below : in_range (length marks) l ≡ true) (one : is_marked marks l ≡ false) (other : is_marked marks (neg l) ≡ false) where
  less : l.var.0 < length marks
  less = ltb-true l.var.0 (length marks) below

  none_of : list_any (is_of l.var.0) lits ≡ false
  none_of = sym (m.others l.var.0) ∙ unmarked_both (get_or marks l.var.0 None) l.sign one other

  each_now : (n : Lit) → is_marked (marked marks l) n ≡ true → (test : Lit → Bool) → list_all test (lits ++ l ∷ []) ≡ true → test n ≡ true
  each_now n is test all = by (cases_eq n.var.0 l.var.0)
    where
      two : (list_all test lits ≡ true) × ((test l && true) ≡ true)
      two = and_parts (list_all test lits) (test l && true) (sym (list_all-append test lits (l ∷ [])) ∙ all)

      by : (n.var.0 ≡ l.var.0) ⊎ (n.var.0 ≡ l.var.0 → ⊥) → test n ≡ true
      by (inl same) =
          let mark : get_or (marked marks l) n.var.0 None ≡ Some l.sign =
          ap (λ (k : ℕ). get_or (marked marks l) k None) same ∙ get_or-set_same marks l.var.0 (Some l.sign) None less
          in
          let signs : l.sign ≡ n.sign = same_sign l.sign n.sign (sym (ap (λ (o : Option Bool). mark_is o n.sign) mark) ∙ is) in
          ap test (lit_of n l same (sym signs)) ∙ sym (and_true (test l)) ∙ two.1
      by (inr differs) =
          m.each n (sym (ap (λ (o : Option Bool). mark_is o n.sign) (get_or-set_other marks l.var.0 n.var.0 (Some l.sign) None differs)) ∙ is) test two.0

  others_now : (n : ℕ) → is_some (get_or (marked marks l) n None) ≡ list_any (is_of n) (lits ++ l ∷ [])
  others_now n = by (cases_eq n l.var.0)
    where
      by : (n ≡ l.var.0) ⊎ (n ≡ l.var.0 → ⊥) → is_some (get_or (marked marks l) n None) ≡ list_any (is_of n) (lits ++ l ∷ [])
      by (inl same) =
          ap (λ (k : ℕ). is_some (get_or (marked marks l) k None)) same
          ∙ ap is_some (get_or-set_same marks l.var.0 (Some l.sign) None less)
          ∙ sym
          (list_any-append (is_of n) lits (l ∷ [])
          ∙ ap (λ b. list_any (is_of n) lits || b) (or_false (nat_eq l.var.0 n) ∙ eq-eqb l.var.0 n (sym same))
          ∙ or_true (list_any (is_of n) lits))
      by (inr differs) =
          ap is_some (get_or-set_other marks l.var.0 n (Some l.sign) None differs)
          ∙ m.others n
          ∙ sym
          (list_any-append (is_of n) lits (l ∷ [])
          ∙ ap (λ b. list_any (is_of n) lits || b) (or_false (nat_eq l.var.0 n) ∙ eq_isnt l.var.0 n (λ e. differs (sym e)))
          ∙ or_false (list_any (is_of n) lits))

  clause_now : is_clause (length (marked marks l)) (lits ++ l ∷ []) ≡ true
  clause_now =
      let two = and_parts (list_all (in_range (length marks)) lits) (distinct lits) m.clause in
      ap (λ (n : ℕ). is_clause n (lits ++ l ∷ [])) (length-set marks l.var.0 (Some l.sign))
      ∙ and_from (list_all (in_range (length marks)) (lits ++ l ∷ [])) (distinct (lits ++ l ∷ []))
      (list_all-append (in_range (length marks)) lits (l ∷ [])
      ∙ and_from (list_all (in_range (length marks)) lits) (in_range (length marks) l && true) two.0 (and_true (in_range (length marks) l) ∙ below))
      (distinct_more lits l two.1 none_of)

  pub one_more_marked : (new : List Lit) (after : Marks) → new ≡ lits ++ l ∷ [] → after ≡ marked marks l → AreMarked new after
  one_more_marked new after more marks_are =
      subst (λ (ls : List Lit). AreMarked ls after) (sym more)
      (subst (λ (ms : Marks). AreMarked (lits ++ l ∷ []) ms) (sym marks_are) (record { clause = clause_now; each = each_now; others = others_now }))

pub more_says : (s new : Assumption) (l : Lit) → new.bools ≡ s.bools → new.lits ≡ s.lits ++ l ∷ [] → new.has_clash ≡ s.has_clash → SaysMore s new (λ values. lit_holds values l)
more_says s new l bools lits clash =
    record {
      bools = bools;
      says =
          λ values.
          ap₂ (λ (c : Bool) (ls : List Lit). not c && list_all (lit_holds values) ls) clash lits
          ∙ ap (λ b. not s.has_clash && b) (list_all-append (lit_holds values) s.lits (l ∷ []) ∙ ap (λ b. list_all (lit_holds values) s.lits && b) (and_true (lit_holds values l)))
          ∙ in_turn (not s.has_clash) (list_all (lit_holds values) s.lits) (lit_holds values l);
    }
  where
    in_turn : (a b c : Bool) → (a && (b && c)) ≡ ((a && b) && c)
    in_turn true b c = refl
    in_turn false b c = refl

-- literal by literal

-- what is assumed now and the literals left say what was assumed first and all literals
pub record SaysSoFar (first now : Assumption) (left all : List Lit) : Type 0 where
  pub bools : now.bools ≡ first.bools
  pub says : (values : List Bool) → (holds values now && list_all (lit_holds values) left) ≡ (holds values first && list_all (lit_holds values) all)

pub says_start : (s : Assumption) (lits : List Lit) → SaysSoFar s s lits lits
says_start s lits = record { bools = refl; says = λ values. refl }

pub says_next : (first now new : Assumption) (lits : List Lit) (i : ℕ) (d : Lit) → i < length lits → SaysSoFar first now (drop i lits) lits
    → SaysMore now new (λ values. lit_holds values (get_or lits i d)) → SaysSoFar first new (drop (i + 1) lits) lits
says_next first now new lits i d inside so_far more =
    record {
      bools = more.bools ∙ so_far.bools;
      says =
          λ values.
          ap (λ b. b && list_all (lit_holds values) (drop (i + 1) lits)) (more.says values)
          ∙ regroup (holds values now) (lit_holds values (get_or lits i d)) (list_all (lit_holds values) (drop (i + 1) lits))
          ∙ ap (λ (ls : List Lit). holds values now && list_all (lit_holds values) ls) (sym (drop_more lits i d inside))
          ∙ so_far.says values;
    }
  where
    regroup : (a b c : Bool) → ((a && b) && c) ≡ (a && (b && c))
    regroup true b c = refl
    regroup false b c = refl

pub says_all : (first now : Assumption) (lits : List Lit) (i : ℕ) → length lits ≤ i → SaysSoFar first now (drop i lits) lits → SaysMore first now (λ values. list_all (lit_holds values) lits)
says_all first now lits i past so_far =
    record {
      bools = so_far.bools;
      says = λ values. sym (and_true (holds values now)) ∙ ap (λ (ls : List Lit). holds values now && list_all (lit_holds values) ls) (sym (drop_all i lits past)) ∙ so_far.says values;
    }

-- what the solver answers

module _ (set : ClauseMap) (s : Assumption) where
  pub clash_tells : s.has_clash ≡ true → Tells set s None
  clash_tells clash values h =
      let is : (not s.has_clash && list_all (lit_holds values) s.lits) ≡ true = h.assumed in
      let never : false ≡ true = sym (ap (λ b. not b && list_all (lit_holds values) s.lits) clash) ∙ is in
      cc never

  module _ (given : List Lit) (same : given ≡ s.lits) (answer : Answer) (told : Answers set given answer) where
    pub told_values : s.has_clash ≡ false → (values : List Bool) (log : List Step) → answer ≡ Sat values log → Tells set s (Some values)
    told_values calm values log is =
        let found : IsSatisfied set given values log = subst (λ (x : Answer). Answers set given x) is told in
        let m = found.model in
        record {
          whole = m.len;
          satisfied = m.all_clauses;
          assumed = ap₂ (λ (c : Bool) (ls : List Lit). not c && list_all (lit_holds values) ls) calm (sym same) ∙ m.all_assumptions;
        }

    pub told_none : (core : List Lit) (log : List Step) → answer ≡ Unsat core log → Tells set s None
    told_none core log is values h =
        let none : IsRefutation set given core log = subst (λ (x : Answer). Answers set given x) is told in
        none.none values
        (record {
          len = h.whole;
          all_clauses = h.satisfied;
          all_assumptions = ap (list_all (lit_holds values)) same ∙ (and_parts (not s.has_clash) (list_all (lit_holds values) s.lits) h.assumed).1;
        })
