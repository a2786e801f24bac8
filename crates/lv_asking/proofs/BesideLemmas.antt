-- What is asked beside one literal more: whether what is assumed says it already, or contradicts it, and what an answer says else.
use Rattle.std.proofs.Common.{◌≡◌, ℕ, Bool, true, false, not, List, [], ◌∷◌, ◌++◌, cond, Option, Some, None, is_none, is_some, append_assoc, refl, sym, subst, ap, ◌∙◌, All, Contains}
use Rattle.std.proofs.Math.Bool.{beq}
use Rattle.std.specs.List.{list_all, find}
use Rattle.std.proofs.lemmas.Bool.{and_parts, and_from, eqb-true}
use Rattle.std.proofs.lemmas.List.Folds.{list_all-append}
use Rattle.lv_base.specs.declared.ids.Lit.{Lit}
use Rattle.lv_base.specs.declared.search.Pair.{Pair}
use Rattle.lv_clauses.specs.Literals.{neg, lit_holds}
use Rattle.lv_clauses.specs.ClauseMap.{ClauseMap}
use Rattle.lv_clauses.specs.Marks.{Marks, is_marked}
use Rattle.lv_clauses.specs.Noted.{is_of}
use Rattle.lv_clauses.proofs.LiteralLemmas.{lit_of, lit_or_neg, all_member, Contains-head, Contains-tail}
use Rattle.lv_sat.specs.Answers.{IsModel}
use Rattle.lv_asking.specs.Literals.{pair_literals, HasMove}
use Rattle.lv_asking.specs.Refutation.{HasModel, HasNoModel, marked_literals, Refutes}
use Rattle.lv_asking.specs.Asking.{AskingValue, Decides, beside}
use Rattle.lv_asking.proofs.AnswerLemmas.{false_so}

-- what is found for a boolean is one of the literals, and of this boolean
first_is_one : (n : ℕ) (ls : List Lit) (m : Lit) → find (is_of n) ls ≡ Some m → Contains ls m × (m.var.0 ≡ n)
first_is_one n [] m e = absurd (cc e)
first_is_one n (l ∷ ls) m e = by (is_of n l) refl e (first_is_one n ls m)
  where
    by : (b : Bool) → is_of n l ≡ b → cond b (Some l) (find (is_of n) ls) ≡ Some m → (find (is_of n) ls ≡ Some m → Contains ls m × (m.var.0 ≡ n)) → Contains (l ∷ ls) m × (m.var.0 ≡ n)
    by true is e later = let same : l ≡ m = (cc e) in subst (λ (k : Lit). Contains (l ∷ ls) k × (k.var.0 ≡ n)) same (Contains-head l ls, eqb-true l.var.0 n is)
    by false isnt e later = let rest = later e in (Contains-tail l m ls rest.0, rest.1)

-- whether there is none, by whether there is some
pub none_is : (core : Option Marks) (none : Bool) → is_some core ≡ not none → none ≡ is_none core
none_is None true e = refl
none_is None false e = absurd (cc e)
none_is (Some marks) true e = absurd (cc e)
none_is (Some marks) false e = refl

same_sign : (s t : Bool) → beq s t ≡ true → s ≡ t
same_sign true true h = refl
same_sign true false h = absurd (cc h)
same_sign false true h = absurd (cc h)
same_sign false false h = refl

other_sign : (s t : Bool) → beq s t ≡ false → s ≡ not t
other_sign true true h = absurd (cc h)
other_sign true false h = refl
other_sign false true h = refl
other_sign false false h = absurd (cc h)

-- what holds of all holds of those that are marked
all_of_marked : (values : List Bool) (marks : Marks) (ls : List Lit) → list_all (lit_holds values) ls ≡ true → list_all (lit_holds values) (marked_literals marks ls) ≡ true
all_of_marked values marks [] h = refl
all_of_marked values marks (l ∷ ls) h =
    let two = and_parts (lit_holds values l) (list_all (lit_holds values) ls) h in
    by (is_marked marks l) two.0 (all_of_marked values marks ls two.1)
  where
    by : (b : Bool) → lit_holds values l ≡ true → list_all (lit_holds values) (marked_literals marks ls) ≡ true → list_all (lit_holds values) (cond b (l ∷ marked_literals marks ls) (marked_literals marks ls)) ≡ true
    by true one rest = and_from (lit_holds values l) (list_all (lit_holds values) (marked_literals marks ls)) one rest
    by false one rest = rest

-- a model of all is one of those that are marked
none_of_all : (set : ClauseMap) (marks : Marks) (chosen assumed : List Lit) → HasNoModel set (marked_literals marks chosen ++ assumed) → HasNoModel set (chosen ++ assumed)
none_of_all set marks chosen assumed none values m =
    let two = and_parts (list_all (lit_holds values) chosen) (list_all (lit_holds values) assumed) (sym (list_all-append (lit_holds values) chosen assumed) ∙ m.all_assumptions) in
    none values
    (record {
      len = m.len;
      all_clauses = m.all_clauses;
      all_assumptions =
          list_all-append (lit_holds values) (marked_literals marks chosen) assumed
          ∙ and_from (list_all (lit_holds values) (marked_literals marks chosen)) (list_all (lit_holds values) assumed) (all_of_marked values marks chosen two.0) two.1;
    })

module _ (a : AskingValue) (l : Lit) (possible : List Pair → Bool) (d : Decides (beside l a) possible) where
  -- what a model of all says of the literal and of what is assumed
  parts_of : (pairs : List Pair) (values : List Bool) → IsModel a.set (pair_literals a.choices pairs ++ (l ∷ a.assumed)) values
      → (list_all (lit_holds values) (pair_literals a.choices pairs) ≡ true) × (lit_holds values l ≡ true) × (list_all (lit_holds values) a.assumed ≡ true)
  parts_of pairs values m =
      let two =
      and_parts (list_all (lit_holds values) (pair_literals a.choices pairs)) (list_all (lit_holds values) (l ∷ a.assumed))
      (sym (list_all-append (lit_holds values) (pair_literals a.choices pairs) (l ∷ a.assumed)) ∙ m.all_assumptions)
      in
      let rest = and_parts (lit_holds values l) (list_all (lit_holds values) a.assumed) two.1 in
      (two.0, rest.0, rest.1)

  -- where it is assumed already, the same is decided without it
  pub said_already : (m : Lit) → find (is_of l.var.0) a.assumed ≡ Some m → beq m.sign l.sign ≡ true → Decides a possible
  said_already m found agree =
      record {
        possible_of = λ pairs have one. d.possible_of pairs have (record { values = one.values; model = with_it pairs one.values one.model });
        model_of = λ pairs have can. let one : HasModel a.set (pair_literals a.choices pairs ++ (l ∷ a.assumed)) = d.model_of pairs have can in record { values = one.values; model = without_it pairs one.values one.model };
        part = d.part;
      }
    where
      there : Contains a.assumed l
      there = let one = first_is_one l.var.0 a.assumed m found in subst (λ (k : Lit). Contains a.assumed k) (lit_of m l one.1 (same_sign m.sign l.sign agree)) one.0

      with_it : (pairs : List Pair) (values : List Bool) → IsModel a.set (pair_literals a.choices pairs ++ a.assumed) values → IsModel a.set (pair_literals a.choices pairs ++ (l ∷ a.assumed)) values
      with_it pairs values m =
          let two =
          and_parts (list_all (lit_holds values) (pair_literals a.choices pairs)) (list_all (lit_holds values) a.assumed)
          (sym (list_all-append (lit_holds values) (pair_literals a.choices pairs) a.assumed) ∙ m.all_assumptions)
          in
          record {
            len = m.len;
            all_clauses = m.all_clauses;
            all_assumptions =
                list_all-append (lit_holds values) (pair_literals a.choices pairs) (l ∷ a.assumed)
                ∙ and_from (list_all (lit_holds values) (pair_literals a.choices pairs)) (list_all (lit_holds values) (l ∷ a.assumed)) two.0
                (and_from (lit_holds values l) (list_all (lit_holds values) a.assumed) (all_member (lit_holds values) a.assumed l two.1 there) two.1);
          }

      without_it : (pairs : List Pair) (values : List Bool) → IsModel a.set (pair_literals a.choices pairs ++ (l ∷ a.assumed)) values → IsModel a.set (pair_literals a.choices pairs ++ a.assumed) values
      without_it pairs values m =
          let three = parts_of pairs values m in
          record {
            len = m.len;
            all_clauses = m.all_clauses;
            all_assumptions =
                list_all-append (lit_holds values) (pair_literals a.choices pairs) a.assumed
                ∙ and_from (list_all (lit_holds values) (pair_literals a.choices pairs)) (list_all (lit_holds values) a.assumed) three.0 three.2;
          }

  module _ (pairs : List Pair) (have : All (HasMove a.choices.counts) pairs) where
    -- where what is assumed contradicts it, no pairs are possible beside it
    pub contradicted : (m : Lit) → find (is_of l.var.0) a.assumed ≡ Some m → beq m.sign l.sign ≡ false → possible pairs ≡ false
    contradicted m found differ =
        false_so (possible pairs)
        (λ can.
        let one : HasModel a.set (pair_literals a.choices pairs ++ (l ∷ a.assumed)) = d.model_of pairs have can in
        let three = parts_of pairs one.values one.model in
        let other = first_is_one l.var.0 a.assumed m found in
        let held : lit_holds one.values m ≡ true = all_member (lit_holds one.values) a.assumed m three.2 other.0 in
        lit_or_neg one.values l three.1 (ap (lit_holds one.values) (sym (lit_of m (neg l) other.1 (other_sign m.sign l.sign differ))) ∙ held))

    grouped : (pair_literals a.choices pairs ++ (l ∷ [])) ++ a.assumed ≡ pair_literals a.choices pairs ++ (l ∷ a.assumed)
    grouped = append_assoc (pair_literals a.choices pairs) (l ∷ []) a.assumed

    -- what a refutation says of the pairs beside it
    pub answer_beside : (core : Option Marks) → Refutes a.set (pair_literals a.choices pairs ++ (l ∷ [])) a.assumed core → is_none core ≡ possible pairs
    answer_beside None told = sym (d.possible_of pairs have (subst (λ (ls : List Lit). HasModel a.set ls) grouped told))
    answer_beside (Some marks) told =
        sym
        (false_so (possible pairs)
        (λ can.
        let one : HasModel a.set ((pair_literals a.choices pairs ++ (l ∷ [])) ++ a.assumed) = subst (λ (ls : List Lit). HasModel a.set ls) (sym grouped) (d.model_of pairs have can) in
        none_of_all a.set marks (pair_literals a.choices pairs ++ (l ∷ [])) a.assumed told one.values one.model))
