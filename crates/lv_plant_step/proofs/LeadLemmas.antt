-- Values that are settled one after the other, each the first with which there is a plant step.
use Rattle.std.proofs.Common.{◌≡◌, ◌+◌, ◌<◌, ◌≤◌, ◌-◌, ℕ, zero, suc, Bool, true, false, ◌&&◌, ◌||◌, nat_eq, nat_lt, if◌then◌else◌, List, [], ◌∷◌, ◌++◌, length, take, get_or, Some, None, refl, sym, subst, ap, ap₂, ◌∙◌, arith, ◌⊎◌, inl, inr, ⊎_elim}
use Rattle.std.proofs.lemmas.Bool.{and_parts, and_from, ltb-true, eqb-true, eq-eqb}
use Rattle.std.proofs.lemmas.List.{length-append, take_more, take_all, length-take-le, get_or_append_left, get_or-append_right}
use Rattle.lv_base.specs.declared.ids.Lit.{Lit}
use Rattle.lv_base.specs.declared.ids.ValId.{ValId}
use Rattle.lv_base.specs.declared.ids.MoveId.{MoveId}
use Rattle.lv_clauses.specs.Literals.{in_range, lit_holds}
use Rattle.lv_model.specs.declared.plant.Plant.{Plant}
use Rattle.lv_model.specs.lv_base.Tree.{number_of}
use Rattle.lv_model.specs.Lists.{sizes}
use Rattle.lv_meaning.specs.Possible.{value}
use Rattle.lv_system.specs.lv_compile.Booleans.{booleans_now, booleans_next, bool_count, value_literal}
use Rattle.lv_system.specs.Encoding.{truth_in}
use Rattle.lv_system.proofs.LiteralLemmas.{value_true, now_in_range, next_in_range}
use Rattle.lv_system.proofs.lv_compile.BooleanLemmas.{is_there}
use Rattle.lv_plant_step.specs.declared.asked.Asked.{Asked}
use Rattle.lv_plant_step.specs.declared.lead.Lead.{Lead}
use Rattle.lv_plant_step.specs.FirstList.{first_list, comes_before}
use Rattle.lv_plant_step.specs.PlantSteps.{is_as_asked, are_plant_step, places}
use Rattle.lv_plant_step.specs.Assuming.{Assumption, SaysMore}
use Rattle.lv_plant_step.specs.Finding.{place_literal, Encodes, has_front, Asks, BeginsSo, IsLeadTo, CanLead, NoneBelow, IsLed}
use Rattle.lv_plant_step.proofs.FirstListLemmas.{first_is, first_none}
use Rattle.lv_plant_step.proofs.SolutionLemmas.{values_long}

and_true : (b : Bool) → (b && true) ≡ b
and_true true = refl
and_true false = refl

and_in_turn : (a b c : Bool) → ((a && b) && c) ≡ (a && (b && c))
and_in_turn true b c = refl
and_in_turn false b c = refl

-- the literal of a place

abbrev pub no_value : ValId
no_value = record { 0 = 0 }

chosen : {X : Type 0} (b : Bool) (x y : X) → b ≡ true → (if b then x else y) ≡ x
chosen true x y e = refl
chosen false x y e = absurd (cc e)

other_chosen : {X : Type 0} (b : Bool) (x y : X) → b ≡ false → (if b then x else y) ≡ y
other_chosen true x y e = absurd (cc e)
other_chosen false x y e = refl

module _ (plant : Plant) where
  pub size_before : (k : ℕ) → k < length (sizes plant) → get_or (places plant) k 0 ≡ get_or (sizes plant) k 0
  size_before k below = get_or_append_left (sizes plant) (sizes plant) 0 k below

  pub size_after : (k : ℕ) → length (sizes plant) ≤ k → get_or (places plant) k 0 ≡ get_or (sizes plant) (k - length (sizes plant)) 0
  size_after k past = get_or-append_right (sizes plant) (sizes plant) (length (sizes plant)) k 0 refl past

  pub place_in_range : (k v : ℕ) → v < get_or (places plant) k 0 → in_range (bool_count plant) (place_literal (booleans_now plant) (booleans_next plant) k v) ≡ true
  place_in_range k v below = by (nat_lt k (length (sizes plant))) refl
    where
      by : (b : Bool) → nat_lt k (length (sizes plant)) ≡ b → in_range (bool_count plant) (place_literal (booleans_now plant) (booleans_next plant) k v) ≡ true
      by true e =
          let same = size_before k (ltb-true k (length (sizes plant)) e) in
          ap (in_range (bool_count plant))
          (chosen (nat_lt k (length (sizes plant))) (value_literal (booleans_now plant) k v true) (value_literal (booleans_next plant) (k - length (sizes plant)) v true) e)
          ∙ now_in_range plant true k v (omega (arith, below, same))
      by false e =
          let past : length (sizes plant) ≤ k = grind (arith, e) in
          let same = size_after k past in
          ap (in_range (bool_count plant))
          (other_chosen (nat_lt k (length (sizes plant))) (value_literal (booleans_now plant) k v true) (value_literal (booleans_next plant) (k - length (sizes plant)) v true) e)
          ∙ next_in_range plant true (k - length (sizes plant)) v (omega (arith, below, same))

  pub place_true : (values : List Bool) (a b : List ValId) (ms : List MoveId) → Encodes plant values a b ms → (k v : ℕ) → v < get_or (places plant) k 0
      → lit_holds values (place_literal (booleans_now plant) (booleans_next plant) k v) ≡ nat_eq (number_of (a ++ b) k) v
  place_true values a b ms code k v below = by (nat_lt k (length (sizes plant))) refl
    where
      long : length a ≡ length (sizes plant)
      long = code.before

      by : (c : Bool) → nat_lt k (length (sizes plant)) ≡ c → lit_holds values (place_literal (booleans_now plant) (booleans_next plant) k v) ≡ nat_eq (number_of (a ++ b) k) v
      by true e =
          let less : k < length (sizes plant) = ltb-true k (length (sizes plant)) e in
          let same = size_before k less in
          ap (lit_holds values)
          (chosen (nat_lt k (length (sizes plant))) (value_literal (booleans_now plant) k v true) (value_literal (booleans_next plant) (k - length (sizes plant)) v true) e)
          ∙ value_true (truth_in values) (booleans_now plant) a code.now k v (omega (arith, below, same))
          ∙ ap (λ (x : ValId). nat_eq x.0 v) (sym (get_or_append_left a b no_value k (omega (arith, less, long))))
      by false e =
          let past : length (sizes plant) ≤ k = grind (arith, e) in
          let same = size_after k past in
          ap (lit_holds values)
          (other_chosen (nat_lt k (length (sizes plant))) (value_literal (booleans_now plant) k v true) (value_literal (booleans_next plant) (k - length (sizes plant)) v true) e)
          ∙ value_true (truth_in values) (booleans_next plant) b code.next (k - length (sizes plant)) v (omega (arith, below, same))
          ∙ ap (λ (x : ValId). nat_eq x.0 v) (sym (get_or-append_right a b (length (sizes plant)) k no_value long past))

-- lists that begin with others

pub front_more : (front us : List ValId) (x : ValId) → length front < length us → has_front (front ++ x ∷ []) us ≡ (has_front front us && nat_eq (number_of us (length front)) x.0)
front_more front [] x less = absurd (omega (arith, less))
front_more [] (u ∷ us) x less = and_true (nat_eq u.0 x.0)
front_more (v ∷ vs) (u ∷ us) x less =
    ap (λ b. nat_eq u.0 v.0 && b) (front_more vs us x (omega (arith, less))) ∙ sym (and_in_turn (nat_eq u.0 v.0) (has_front vs us) (nat_eq (number_of us (length vs)) x.0))

same_value : (u v : ValId) → u.0 ≡ v.0 → u ≡ v
same_value u v e = ap value e

pub front_is : (front us : List ValId) → has_front front us ≡ true → take (length front) us ≡ front
front_is [] us h = refl
front_is (v ∷ vs) [] h = absurd (cc h)
front_is (v ∷ vs) (u ∷ us) h =
    let two = and_parts (nat_eq u.0 v.0) (has_front vs us) h in
    ap₂ (λ (x : ValId) (xs : List ValId). x ∷ xs) (same_value u v (eqb-true u.0 v.0 two.0)) (front_is vs us two.1)

pub own_front : (k : ℕ) (us : List ValId) → has_front (take k us) us ≡ true
own_front zero us = refl
own_front (suc k) [] = refl
own_front (suc k) (u ∷ us) = and_from (nat_eq u.0 u.0) (has_front (take k us) us) (eq-eqb u.0 u.0 refl) (own_front k us)

abbrev no_values : List ValId
no_values = []

-- where a list with one value more comes before another, it does without them, or only that value is less
before_by : (xs ys : List ValId) (x y : ValId) → length xs ≡ length ys → comes_before (xs ++ x ∷ []) (ys ++ y ∷ []) ≡ true → (comes_before xs ys ≡ true) ⊎ ((xs ≡ ys) × (x.0 < y.0))
before_by [] [] x y long h = by (nat_lt x.0 y.0) (nat_eq x.0 y.0) refl h
  where
    by : (b c : Bool) → nat_lt x.0 y.0 ≡ b → (b || (c && false)) ≡ true → (comes_before no_values no_values ≡ true) ⊎ ((no_values ≡ no_values) × (x.0 < y.0))
    by true c e h = inr (refl, ltb-true x.0 y.0 e)
    by false true e h = absurd (cc h)
    by false false e h = absurd (cc h)
before_by [] (v ∷ ys) x y long h = absurd (omega (arith, long))
before_by (u ∷ xs) [] x y long h = absurd (omega (arith, long))
before_by (u ∷ xs) (v ∷ ys) x y long h = by (nat_lt u.0 v.0) (nat_eq u.0 v.0) refl h (λ more. before_by xs ys x y (omega (arith, long)) more)
  where
    by : (b c : Bool) → nat_eq u.0 v.0 ≡ c → (b || (c && comes_before (xs ++ x ∷ []) (ys ++ y ∷ []))) ≡ true
        → (comes_before (xs ++ x ∷ []) (ys ++ y ∷ []) ≡ true → (comes_before xs ys ≡ true) ⊎ ((xs ≡ ys) × (x.0 < y.0)))
        → ((b || (c && comes_before xs ys)) ≡ true) ⊎ ((u ∷ xs ≡ v ∷ ys) × (x.0 < y.0))
    by true c e h rest = inl refl
    by false true e h rest =
        ⊎_elim (λ earlier. inl earlier) (λ less. inr (ap₂ (λ (w : ValId) (ws : List ValId). w ∷ ws) (same_value u v (eqb-true u.0 v.0 e)) less.0, less.1)) (rest h)
    by false false e h rest = absurd (cc h)

never_before : (b : Bool) → (b ≡ true → ⊥) → b ≡ false
never_before true h = absurd (h refl)
never_before false h = refl

module _ (plant : Plant) (asked : Asked) where
  -- what is assumed with one value more
  pub asks_more : (front : List ValId) (s new : Assumption) (k : ℕ) (v : ValId) (l : Lit) → length front ≡ k → k < length (places plant) → v.0 < get_or (places plant) k 0
      → l ≡ place_literal (booleans_now plant) (booleans_next plant) k v.0 → Asks plant asked front s → SaysMore s new (λ values. lit_holds values l) → Asks plant asked (front ++ v ∷ []) new
  asks_more front s new k v l long inside below is asks more =
      record {
        bools = more.bools ∙ asks.bools;
        says =
            λ values a b ms code.
            let one = code.before in
            let other = code.after in
            let both : length (a ++ b) ≡ length (places plant) = both_long a b one other in
            more.says values
            ∙ ap₂ (λ (p q : Bool). p && q) (asks.says values a b ms code)
            (ap (lit_holds values) is ∙ place_true plant values a b ms code k v.0 below ∙ ap (λ (n : ℕ). nat_eq (number_of (a ++ b) n) v.0) (sym long))
            ∙ and_in_turn (is_as_asked plant asked a ms) (has_front front (a ++ b)) (nat_eq (number_of (a ++ b) (length front)) v.0)
            ∙ ap (λ t. is_as_asked plant asked a ms && t) (sym (front_more front (a ++ b) v (omega (arith, long, inside, both))));
      }
    where
      both_long : (a b : List ValId) → length a ≡ length (sizes plant) → length b ≡ length (sizes plant) → length (a ++ b) ≡ length (places plant)
      both_long a b one other =
          length-append a b ∙ ap₂ (λ (m n : ℕ). m + n) one other ∙ sym (length-append (sizes plant) (sizes plant))

  -- what is assumed of a lead, with one value more
  pub lead_asks : (place : ℕ) (lead : Lead) (v : ValId) (s new : Assumption) (l : Lit) → CanLead plant lead → v.0 < get_or (places plant) place 0 → IsLed plant asked place lead
      → s ≡ lead.assumed → l ≡ place_literal (booleans_now plant) (booleans_next plant) place v.0 → SaysMore s new (λ values. lit_holds values l)
      → Asks plant asked (take place lead.values ++ v ∷ []) new
  lead_asks place lead v s new l can below led same is more =
      let long : length lead.values ≡ length (places plant) = values_long (places plant) lead.values can.values in
      let inside : place < length (places plant) = is_there (places plant) place v.0 below in
      asks_more (take place lead.values) s new place v l (length-take-le place lead.values (omega (arith, long, inside))) inside below is
      (subst (λ (x : Assumption). Asks plant asked (take place lead.values) x) (sym same) led.is.asks) more

  -- nothing is settled yet
  pub led_first : (lead : Lead) → IsLeadTo plant asked [] lead → IsLed plant asked 0 lead
  led_first lead is = record { is = is; first = λ other so. refl }

  -- without a front
  pub begins_free : (front vs : List ValId) → BeginsSo plant asked front vs → BeginsSo plant asked [] vs
  begins_free front vs so = record { values = so.values; begins = refl; step = so.step }

  -- the value at a place is settled
  pub led_on : (place : ℕ) (lead new : Lead) (v : ValId) → place < length (places plant) → IsLed plant asked place lead → NoneBelow plant asked (take place lead.values) v.0
      → IsLeadTo plant asked (take place lead.values ++ v ∷ []) new → IsLed plant asked (place + 1) new
  led_on place lead new v inside led none to =
      record {
        is = subst (λ (front : List ValId). IsLeadTo plant asked front new) (sym now) to;
        first = λ other so. ap (comes_before (take (place + 1) other)) now ∙ never_before (comes_before (take (place + 1) other) whole) (λ before. never other so before);
      }
    where
      front : List ValId
      front = take place lead.values

      whole : List ValId
      whole = front ++ v ∷ []

      long : length lead.values ≡ length (places plant)
      long = values_long (places plant) lead.values led.is.begins.values

      front_long : length front ≡ place
      front_long = let l = long in length-take-le place lead.values (omega (arith, inside, l))

      whole_long : length whole ≡ place + 1
      whole_long = length-append front (v ∷ []) ∙ ap (λ (n : ℕ). n + 1) front_long

      now : take (place + 1) new.values ≡ whole
      now = ap (λ (n : ℕ). take n new.values) (sym whole_long) ∙ front_is whole new.values to.begins.begins

      never : (other : List ValId) → BeginsSo plant asked [] other → comes_before (take (place + 1) other) whole ≡ true → ⊥
      never other so before =
          ⊎_elim
          (λ earlier. let clash : true ≡ false = sym earlier ∙ led.first other so in cc clash)
          (λ less.
          none.none x.0 less.1 other
          (record {
            values = so.values;
            begins =
                ap (λ (f : List ValId). has_front f other) (ap (λ (f : List ValId). f ++ x ∷ []) (sym less.0) ∙ sym split) ∙ own_front (place + 1) other;
            step = so.step;
          }))
          (before_by (take place other) front x v (other_long ∙ sym front_long) (ap (λ (f : List ValId). comes_before f whole) (sym split) ∙ before))
        where
          x : ValId
          x = get_or other place no_value

          total : length other ≡ length (places plant)
          total = values_long (places plant) other so.values

          other_long : length (take place other) ≡ place
          other_long = let t = total in length-take-le place other (omega (arith, inside, t))

          split : take (place + 1) other ≡ take place other ++ x ∷ []
          split = let t = total in take_more other place no_value (omega (arith, inside, t))

  -- the step's own value is the first
  pub own_lead : (place : ℕ) (lead : Lead) (s : Assumption) (v : ValId) → place < length (places plant) → IsLed plant asked place lead → v ≡ get_or lead.values place no_value
      → Asks plant asked (take place lead.values ++ v ∷ []) s → IsLeadTo plant asked (take place lead.values ++ v ∷ []) (record { assumed = s; values = lead.values })
  own_lead place lead s v inside led is asks =
      let long : length lead.values ≡ length (places plant) = values_long (places plant) lead.values led.is.begins.values in
      record {
        asks = asks;
        begins = record {
          values = led.is.begins.values;
          begins =
              ap (λ (f : List ValId). has_front f lead.values) (ap (λ (x : ValId). take place lead.values ++ x ∷ []) is ∙ sym (take_more lead.values place no_value (omega (arith, inside, long))))
              ∙ own_front (place + 1) lead.values;
          step = led.is.begins.step;
        };
      }

  pub none_yet : (front : List ValId) → NoneBelow plant asked front 0
  none_yet front = record { none = λ v below. absurd (omega (arith, below)) }

  pub none_more : (front : List ValId) (v : ℕ) → NoneBelow plant asked front v → ((vs : List ValId) → BeginsSo plant asked (front ++ value v ∷ []) vs → ⊥) → NoneBelow plant asked front (v + 1)
  none_more front v none here = record { none = λ u below vs so. by u below vs so (nat_eq u v) refl }
    where
      by : (u : ℕ) → u < v + 1 → (vs : List ValId) → BeginsSo plant asked (front ++ value u ∷ []) vs → (b : Bool) → nat_eq u v ≡ b → ⊥
      by u below vs so true e = here vs (subst (λ (n : ℕ). BeginsSo plant asked (front ++ value n ∷ []) vs) (eqb-true u v e) so)
      by u below vs so false e = none.none u (grind (arith, below, e)) vs so

  -- all values are settled
  pub led_last : (lead : Lead) → IsLed plant asked (length (places plant)) lead → first_list (places plant) (are_plant_step plant asked) ≡ Some lead.values
  led_last lead led =
      let long : length lead.values ≡ length (places plant) = values_long (places plant) lead.values led.is.begins.values in
      first_is (places plant) (are_plant_step plant asked) lead.values
      (record {
        values = led.is.begins.values;
        passes = led.is.begins.step;
        least =
            λ other fit goes.
            let total : length other ≡ length (places plant) = values_long (places plant) other fit in
            sym
            (ap₂ comes_before (take_all (length (places plant)) other (omega (arith, total))) (take_all (length (places plant)) lead.values (omega (arith, long))))
            ∙ led.first other (record { values = fit; begins = refl; step = goes });
      })

  -- there is none
  pub none_at_all : ((vs : List ValId) → BeginsSo plant asked [] vs → ⊥) → first_list (places plant) (are_plant_step plant asked) ≡ None
  none_at_all none =
      first_none (places plant) (are_plant_step plant asked)
      (λ vs fit. never_before (are_plant_step plant asked vs) (λ goes. none vs (record { values = fit; begins = refl; step = goes })))
