-- What is stated as literals is true of truth values that encode a step which meets the facts.
use Rattle.std.proofs.Common.{◌≡◌, ℕ, ◌-◌, ◌<◌, ◌≤◌, Bool, true, false, ◌&&◌, nat_lt, nat_le, List, [], ◌∷◌, ◌++◌, length, Some, None, All, cond, slice_index_or, refl, sym, subst, ◌∙◌, ap, arith}
use Rattle.std.specs.Prelude.{map}
use Rattle.std.specs.List.{list_all}
use Rattle.std.proofs.lemmas.Bool.{and_parts, and_from, ltb-true, eqb-true}
use Rattle.std.proofs.lemmas.List.Folds.{list_all-append}
use Rattle.std.proofs.lemmas.List.Elements.{All-tail}
use borrow.Author.Tests.{leb-true}
use Rattle.lv_cert_meaning.specs.lv_base.declared.ids.ValId.{ValId}
use Rattle.lv_cert_meaning.specs.lv_base.declared.ids.VarId.{VarId}
use Rattle.lv_cert_meaning.specs.lv_base.Tree.{number_of}
use Rattle.lv_cert_meaning.specs.lv_model.declared.plant.Plant.{Plant}
use Rattle.lv_cert_meaning.specs.lv_model.Lists.{sizes, controls, IsVariable}
use Rattle.lv_cert_meaning.specs.lv_model.WellFormed.{is_well_formed}
use Rattle.lv_cert_meaning.proofs.lv_model.Controls.{controls-in_range}
use Rattle.lv_cert_meaning.proofs.lv_model.Sizes.{length-sizes}
use Rattle.lv_cert_meaning.specs.lv_model_names.Names.{classes, is_observable}
use Rattle.lv_cert_meaning.specs.lv_meaning.declared.facts.Observation.{Observation}
use Rattle.lv_cert_meaning.specs.lv_meaning.Facts.{agrees, meets, commanded}
use Rattle.lv_cert_meaning.specs.lv_compile.Booleans.{Booleans, booleans_now, booleans_next}
use Rattle.lv_cert_meaning.specs.lv_compile.Laws.{literal_is_true, Encode}
use Rattle.lv_cert_meaning.proofs.lv_compile.FormulaLemmas.{as_true}
use Rattle.lv_cert_meaning.specs.lv_cert.declared.line.Moment.{Moment}
use Rattle.lv_cert_meaning.specs.lv_cert.declared.line.Moment.TheVariants.{Now, Next}
use Rattle.lv_cert_meaning.specs.Counting.{is_one_of, values_of}
use Rattle.lv_cert_meaning.specs.Stated.{Stated, observed_literal, with_controls, observation_of, with_observation}

-- the literals are true wherever values before and after a step meet the facts
pub record Says (plant : Plant) (s : Stated) : Type 0 where
  pub holds : (truth : ℕ → Bool) (a b : List ValId) → Encode truth (booleans_now plant) a → Encode truth (booleans_next plant) b → meets a (commanded (controls plant) s.facts.controls) ≡ true
      → meets a s.facts.present ≡ true → meets b s.facts.next ≡ true → list_all (literal_is_true truth) s.literals ≡ true

-- a number of so many things
pub one_below : (count n : ℕ) → is_one_of count n ≡ true → n - 1 < count
one_below count n h =
    let two = and_parts (nat_lt 0 n) (nat_le n count) h in
    let some : 0 < n = ltb-true 0 n two.0 in
    let few : n ≤ count = leb-true n count two.1 in
    omega (arith, some, few)

observed_true : (truth : ℕ → Bool) (b : Booleans) (a : List ValId) (o : Observation) → Encode truth b a → o.var.0 < length b.sizes → agrees a o ≡ true
    → literal_is_true truth (observed_literal b o) ≡ true
observed_true truth b a o code there agree =
    let same : number_of a o.var.0 ≡ o.val.0 = eqb-true (number_of a o.var.0) o.val.0 agree in
    let below = code.in_range o.var.0 there in
    as_true _ ∙ code.values o.var.0 o.val.0 there (omega (arith, same, below)) ∙ agree

commanded_true : (truth : ℕ → Bool) (b : Booleans) (a : List ValId) (cs : List VarId) (vs : List ValId) → Encode truth b a → All (IsVariable (length b.sizes)) cs
    → meets a (commanded cs vs) ≡ true → list_all (literal_is_true truth) (map (observed_literal b) (commanded cs vs)) ≡ true
commanded_true truth b a [] vs code there met = refl
commanded_true truth b a (c ∷ cs) [] code there met = refl
commanded_true truth b a (c ∷ cs) (v ∷ vs) code there met =
    let o : Observation = record { var = c; val = v } in
    let two = and_parts (agrees a o) (meets a (commanded cs vs)) met in
    and_from (literal_is_true truth (observed_literal b o)) (list_all (literal_is_true truth) (map (observed_literal b) (commanded cs vs)))
    (observed_true truth b a o code ((there 0 c (omega arith)).below) two.0)
    (commanded_true truth b a cs vs code (All-tail (IsVariable (length b.sizes)) c cs there) two.1)

pub says_nothing : (plant : Plant) (s : Stated) → s.literals ≡ [] → Says plant s
says_nothing plant s none = record { holds = λ truth a b now next m p n. ap (list_all (literal_is_true truth)) none }

pub says_controls : (plant : Plant) → is_well_formed plant ≡ true → (s : Stated) (ns : List ℕ) → s.literals ≡ [] → Says plant (with_controls plant s ns)
says_controls plant h s ns none = record { holds = holds }
  where
    there : All (IsVariable (length (sizes plant))) (controls plant)
    there = subst (λ n. All (IsVariable n) (controls plant)) (sym (length-sizes plant)) (controls-in_range plant h)

    holds : (truth : ℕ → Bool) (a b : List ValId) → Encode truth (booleans_now plant) a → Encode truth (booleans_next plant) b → meets a (commanded (controls plant) (values_of ns)) ≡ true
        → meets a s.facts.present ≡ true → meets b s.facts.next ≡ true
        → list_all (literal_is_true truth) (s.literals ++ map (observed_literal (booleans_now plant)) (commanded (controls plant) (values_of ns))) ≡ true
    holds truth a b now next m p n =
        ap (λ ls. list_all (literal_is_true truth) (ls ++ map (observed_literal (booleans_now plant)) (commanded (controls plant) (values_of ns)))) none
        ∙ commanded_true truth (booleans_now plant) a (controls plant) (values_of ns) now there m

-- what an observation is of
pub observed_there : (plant : Plant) (x v : ℕ) (o : Observation) → observation_of plant x v ≡ Some o → o.var.0 < length (sizes plant)
observed_there plant x v o h = by test refl h
  where
    test : Bool
    test = (is_one_of (length (sizes plant)) x && is_observable (classes plant) (x - 1)) && is_one_of (slice_index_or (sizes plant) (x - 1) 0) v

    by : (t : Bool) → test ≡ t → cond t (Some (record { var = record { 0 = x - 1 }; val = record { 0 = v - 1 } })) None ≡ Some o → o.var.0 < length (sizes plant)
    by true e is =
        let one = and_parts (is_one_of (length (sizes plant)) x) (is_observable (classes plant) (x - 1)) ((and_parts (is_one_of (length (sizes plant)) x && is_observable (classes plant) (x - 1)) (is_one_of (slice_index_or (sizes plant) (x - 1) 0) v) e).0) in
        let below = one_below (length (sizes plant)) x one.0 in
        let made : record { var = record { 0 = x - 1 }; val = record { 0 = v - 1 } } ≡ o = cc is in
        let same : x - 1 ≡ o.var.0 = ap (λ (p : Observation). p.var.0) made in
        omega (arith, below, same)
    by false e is = absurd (cc is)

pub says_observation : (plant : Plant) (moment : Moment) (s : Stated) (o : Observation) → o.var.0 < length (sizes plant) → Says plant s → Says plant (with_observation plant moment s o)
says_observation plant Now s o there says = record { holds = holds }
  where
    holds : (truth : ℕ → Bool) (a b : List ValId) → Encode truth (booleans_now plant) a → Encode truth (booleans_next plant) b → meets a (commanded (controls plant) s.facts.controls) ≡ true
        → meets a (s.facts.present ++ o ∷ []) ≡ true → meets b s.facts.next ≡ true → list_all (literal_is_true truth) (s.literals ++ observed_literal (booleans_now plant) o ∷ []) ≡ true
    holds truth a b now next m p n =
        let two = and_parts (meets a s.facts.present) (meets a (o ∷ [])) (sym (list_all-append (agrees a) s.facts.present (o ∷ [])) ∙ p) in
        let one = and_parts (agrees a o) true two.1 in
        list_all-append (literal_is_true truth) s.literals (observed_literal (booleans_now plant) o ∷ [])
        ∙ and_from (list_all (literal_is_true truth) s.literals) (list_all (literal_is_true truth) (observed_literal (booleans_now plant) o ∷ [])) (says.holds truth a b now next m two.0 n)
        (and_from (literal_is_true truth (observed_literal (booleans_now plant) o)) true (observed_true truth (booleans_now plant) a o now there one.0) refl)
says_observation plant Next s o there says = record { holds = holds }
  where
    holds : (truth : ℕ → Bool) (a b : List ValId) → Encode truth (booleans_now plant) a → Encode truth (booleans_next plant) b → meets a (commanded (controls plant) s.facts.controls) ≡ true
        → meets a s.facts.present ≡ true → meets b (s.facts.next ++ o ∷ []) ≡ true → list_all (literal_is_true truth) (s.literals ++ observed_literal (booleans_next plant) o ∷ []) ≡ true
    holds truth a b now next m p n =
        let two = and_parts (meets b s.facts.next) (meets b (o ∷ [])) (sym (list_all-append (agrees b) s.facts.next (o ∷ [])) ∙ n) in
        let one = and_parts (agrees b o) true two.1 in
        list_all-append (literal_is_true truth) s.literals (observed_literal (booleans_next plant) o ∷ [])
        ∙ and_from (list_all (literal_is_true truth) s.literals) (list_all (literal_is_true truth) (observed_literal (booleans_next plant) o ∷ [])) (says.holds truth a b now next m p two.0)
        (and_from (literal_is_true truth (observed_literal (booleans_next plant) o)) true (observed_true truth (booleans_next plant) b o next there one.0) refl)
