-- What the clauses of a nominal step say where truth values encode a step, and that they are clauses over the plant's booleans.
use Rattle.std.proofs.Common.{◌≡◌, ℕ, zero, suc, ◌+◌, ◌<◌, ◌≤◌, Bool, true, false, ◌&&◌, not, nat_eq, List, [], ◌∷◌, ◌++◌, length, map, slice_get, slice_index_or, Option, Some, None, All, cond, refl, sym, subst, ◌∙◌, ap, arith}
use Rattle.std.specs.List.{list_all}
use Rattle.std.specs.Option.{option_map_or, option_and_then}
use Rattle.std.proofs.lemmas.Bool.{and_parts, and_from, eq-eqb}
use Rattle.std.proofs.lemmas.Option.{slice_get_within, get_or_from_slice_get}
use Rattle.std.proofs.lemmas.List.{length-map, get_or-map}
use Rattle.std.proofs.lemmas.List.Elements.{All-head, All-tail}
use Rattle.std.proofs.lemmas.List.Folds.{list_all-append}
use Rattle.lv_base.specs.declared.ids.Lit.{Lit}
use Rattle.lv_base.specs.declared.ids.MoveId.{MoveId}
use Rattle.lv_base.specs.declared.ids.ValId.{ValId}
use Rattle.lv_base.specs.declared.ids.VarId.{VarId}
use Rattle.lv_base.specs.declared.search.Pair.{Pair}
use Rattle.lv_system.specs.lv_clauses.Literals.{in_range, is_clause}
use Rattle.lv_base.specs.Fits.{has_value}
use Rattle.lv_base.specs.Tree.{number_of}
use Rattle.lv_model.specs.declared.plant.Plant.{Plant}
use Rattle.lv_model.specs.declared.plant.ComponentType.{ComponentType}
use Rattle.lv_model.specs.declared.plant.Move.{Move}
use Rattle.lv_model.specs.declared.plant.Part.{Part}
use Rattle.lv_model.specs.Lists.{sizes, part_moves, move_counts, controls}
use Rattle.lv_model.specs.Meaning.{is_no_fault, part_is_nominal, parts_are_nominal, is_nominal}
use Rattle.lv_model.specs.Ranges.{plant_ranges}
use Rattle.lv_meaning.specs.declared.facts.Observation.{Observation}
use Rattle.lv_meaning.specs.Facts.{agrees, meets}
use Rattle.lv_meaning.specs.Candidates.{type_moves}
use Rattle.lv_meaning.specs.Commands.{control_sizes}
use Rattle.lv_meaning.specs.Ranges.{modes_fit, ObservationFits}
use Rattle.lv_meaning.specs.Recovers.{has_modes, has_control, has_controls}
use Rattle.lv_search_zones.specs.lv_compile.Booleans.{value_literal, booleans_now, first_choice, choice_bool, literal, bool_count}
use Rattle.lv_search_zones.specs.lv_compile.FormulaClauses.{size_of}
use Rattle.lv_search_zones.specs.lv_compile.Laws.{literal_is_true, Encode, EncodeMoves, move_number}
use Rattle.lv_system.proofs.LiteralLemmas.{value_true, choice_false, now_in_range, choice_in_range}
use Rattle.lv_cert_laws.specs.lv_cert_meaning.Stated.{observed_literal}
use Rattle.lv_cert_laws.specs.lv_cert_meaning.Units.{units, mode_literals, no_fault_of, no_fault_literals, control_literal}
use Rattle.lv_cert_writing.specs.Pairs.{HasChoice}
use Rattle.lv_cert_writing.proofs.Numbers.{have_value}

-- the control of a slot that has values
pub record IsControl (plant : Plant) (p : Pair) : Type 0 where
  pub control : VarId
  pub at : slice_get (controls plant) p.slot ≡ Some control
  pub first : slice_index_or (controls plant) p.slot (record { 0 = 0 }) ≡ control
  pub below : p.choice < slice_index_or (sizes plant) control.0 0

pub control_of : (plant : Plant) (p : Pair) → HasChoice (control_sizes plant) p → IsControl plant p
control_of plant p has = found (controls plant) p.slot refl has.below
  where
    found : (cs : List VarId) (k : ℕ) → slice_get cs k ≡ slice_get (controls plant) p.slot → p.choice < slice_index_or (map (λ (c : VarId). slice_index_or (sizes plant) c.0 0) cs) k 0 → IsControl plant p
    found [] k same below = absurd (omega (arith, below))
    found (c ∷ cs) zero same below =
        record { control = c; at = sym same; first = get_or_from_slice_get (controls plant) p.slot c (record { 0 = 0 }) (sym same); below = below }
    found (c ∷ cs) (suc k) same below = found cs k same below

module _ (plant : Plant) where
  mode_has : (x v : ℕ) → has_value (plant_ranges plant) x v ≡ true → v < size_of (booleans_now plant) x
  mode_has x v h = have_value (plant_ranges plant) x v h

  -- of the literals of a nominal step each is of a boolean that there is
  modes_in : (ps : List Part) (vs : List ValId) → modes_fit (plant_ranges plant) ps vs ≡ true → list_all (in_range (bool_count plant)) (mode_literals plant ps vs) ≡ true
  modes_in [] vs h = refl
  modes_in (p ∷ ps) [] h = absurd (cc h)
  modes_in (p ∷ ps) (v ∷ vs) h =
      let two = and_parts (has_value (plant_ranges plant) p.first.0 v.0) (modes_fit (plant_ranges plant) ps vs) h in
      and_from (in_range (bool_count plant) (value_literal (booleans_now plant) p.first.0 v.0 true)) (list_all (in_range (bool_count plant)) (mode_literals plant ps vs))
      (now_in_range plant true p.first.0 v.0 (mode_has p.first.0 v.0 two.0)) (modes_in ps vs two.1)

  observed_in : (os : List Observation) → All (ObservationFits plant) os → list_all (in_range (bool_count plant)) (map (observed_literal (booleans_now plant)) os) ≡ true
  observed_in [] fit = refl
  observed_in (o ∷ os) fit =
      and_from (in_range (bool_count plant) (observed_literal (booleans_now plant) o)) (list_all (in_range (bool_count plant)) (map (observed_literal (booleans_now plant)) os))
      (now_in_range plant true o.var.0 o.val.0 (mode_has o.var.0 o.val.0 (All-head (ObservationFits plant) o os fit).value)) (observed_in os (All-tail (ObservationFits plant) o os fit))

  controls_in : (ps : List Pair) → All (HasChoice (control_sizes plant)) ps → list_all (in_range (bool_count plant)) (map (control_literal plant) ps) ≡ true
  controls_in [] have = refl
  controls_in (p ∷ ps) have =
      let c : IsControl plant p = control_of plant p (All-head (HasChoice (control_sizes plant)) p ps have) in
      and_from (in_range (bool_count plant) (control_literal plant p)) (list_all (in_range (bool_count plant)) (map (control_literal plant) ps))
      (ap (λ (x : VarId). in_range (bool_count plant) (value_literal (booleans_now plant) x.0 p.choice true)) c.first ∙ now_in_range plant true c.control.0 p.choice c.below)
      (controls_in ps (All-tail (HasChoice (control_sizes plant)) p ps have))

  counted : (p : Part) → part_moves plant.types p ≡ length (type_moves plant.types p)
  counted p = by (slice_get plant.types p.kind)
    where
      by : (o : Option ComponentType) → option_map_or (λ (t : ComponentType). length t.moves) o 0 ≡ length (option_map_or (λ (t : ComponentType). t.moves) o [])
      by None = refl
      by (Some t) = refl

  count_at : (k : ℕ) (p : Part) → slice_get plant.parts k ≡ Some p → slice_index_or (move_counts plant) k 0 ≡ length (type_moves plant.types p)
  count_at k p at =
      get_or-map (part_moves plant.types) plant.parts k p 0 (slice_get_within plant.parts k p at) ∙ ap (part_moves plant.types) (get_or_from_slice_get plant.parts k p p at) ∙ counted p

  faults_in : (k n : ℕ) (moves : List Move) → n + length moves ≤ slice_index_or (move_counts plant) k 0 → list_all (in_range (bool_count plant)) (no_fault_of plant k n moves) ≡ true
  faults_in k n [] few = refl
  faults_in k n (m ∷ moves) few = by (is_no_fault m.kind) (faults_in k (n + 1) moves (omega (arith, few)))
    where
      by : (b : Bool) → list_all (in_range (bool_count plant)) (no_fault_of plant k (n + 1) moves) ≡ true
          → list_all (in_range (bool_count plant)) (cond b (no_fault_of plant k (n + 1) moves) (literal (choice_bool plant k n) false ∷ no_fault_of plant k (n + 1) moves)) ≡ true
      by true rest = rest
      by false rest =
          and_from (in_range (bool_count plant) (literal (choice_bool plant k n) false)) (list_all (in_range (bool_count plant)) (no_fault_of plant k (n + 1) moves))
          (choice_in_range plant false k n (omega (arith, few))) rest

  no_faults_in : (k : ℕ) (ps : List Part) → ((i : ℕ) (p : Part) → slice_get ps i ≡ Some p → slice_get plant.parts (k + i) ≡ Some p)
      → list_all (in_range (bool_count plant)) (no_fault_literals plant k ps) ≡ true
  no_faults_in k [] there = refl
  no_faults_in k (p ∷ ps) there =
      let none : k + 0 ≡ k = omega arith in
      let first : slice_get plant.parts k ≡ Some p = subst (λ j. slice_get plant.parts j ≡ Some p) none (there 0 p refl) in
      let count = count_at k p first in
      list_all-append (in_range (bool_count plant)) (no_fault_of plant k 0 (type_moves plant.types p)) (no_fault_literals plant (k + 1) ps)
      ∙ and_from (list_all (in_range (bool_count plant)) (no_fault_of plant k 0 (type_moves plant.types p))) (list_all (in_range (bool_count plant)) (no_fault_literals plant (k + 1) ps))
      (faults_in k 0 (type_moves plant.types p) (omega (arith, count)))
      (no_faults_in (k + 1) ps (λ i q is. let next : k + suc i ≡ k + 1 + i = omega arith in subst (λ j. slice_get plant.parts j ≡ Some q) next (there (suc i) q is)))

  all_there : (i : ℕ) (p : Part) → slice_get plant.parts i ≡ Some p → slice_get plant.parts (0 + i) ≡ Some p
  all_there i p is = let same : i ≡ 0 + i = omega arith in subst (λ j. slice_get plant.parts j ≡ Some p) same is

  pub nominal_in : (modes : List ValId) (present : List Observation) (pairs : List Pair) → modes_fit (plant_ranges plant) plant.parts modes ≡ true → All (ObservationFits plant) present
      → All (HasChoice (control_sizes plant)) pairs
      → list_all (in_range (bool_count plant))
      ((mode_literals plant plant.parts modes ++ no_fault_literals plant 0 plant.parts) ++ (map (observed_literal (booleans_now plant)) present ++ map (control_literal plant) pairs)) ≡ true
  nominal_in modes present pairs fit seen have =
      let ranged : Lit → Bool = in_range (bool_count plant) in
      let first : List Lit = mode_literals plant plant.parts modes ++ no_fault_literals plant 0 plant.parts in
      let then : List Lit = map (observed_literal (booleans_now plant)) present ++ map (control_literal plant) pairs in
      list_all-append ranged first then
      ∙ and_from (list_all ranged first) (list_all ranged then)
      (list_all-append ranged (mode_literals plant plant.parts modes) (no_fault_literals plant 0 plant.parts)
      ∙ and_from (list_all ranged (mode_literals plant plant.parts modes)) (list_all ranged (no_fault_literals plant 0 plant.parts)) (modes_in plant.parts modes fit)
      (no_faults_in 0 plant.parts all_there))
      (list_all-append ranged (map (observed_literal (booleans_now plant)) present) (map (control_literal plant) pairs)
      ∙ and_from (list_all ranged (map (observed_literal (booleans_now plant)) present)) (list_all ranged (map (control_literal plant) pairs)) (observed_in present seen) (controls_in pairs have))

-- literals in range are clauses of their own
pub units_over : (bools : ℕ) (ls : List Lit) → list_all (in_range bools) ls ≡ true → list_all (is_clause bools) (units ls) ≡ true
units_over bools [] h = refl
units_over bools (l ∷ ls) h =
    let two = and_parts (in_range bools l) (list_all (in_range bools) ls) h in
    and_from (is_clause bools (l ∷ [])) (list_all (is_clause bools) (units ls)) (and_from (in_range bools l && true) true (and_from (in_range bools l) true two.0 refl) refl) (units_over bools ls two.1)

-- moves that are each nominal
nominal_from : (types : List ComponentType) (ps : List Part) (ms : List MoveId) → length ms ≡ length ps
    → ((i : ℕ) (p : Part) → slice_get ps i ≡ Some p → part_is_nominal types p (move_number ms i) ≡ true) → parts_are_nominal types ps ms ≡ true
nominal_from types [] [] long each = refl
nominal_from types [] (m ∷ ms) long each = absurd (omega (arith, long))
nominal_from types (p ∷ ps) [] long each = absurd (omega (arith, long))
nominal_from types (p ∷ ps) (m ∷ ms) long each =
    and_from (part_is_nominal types p m.0) (parts_are_nominal types ps ms) (each 0 p refl) (nominal_from types ps ms (omega (arith, long)) (λ i q at. each (suc i) q at))

module _ (plant : Plant) (truth : ℕ → Bool) where
  -- the literals of a part's faults are among those of all
  faults_at : (k : ℕ) (ps : List Part) (i : ℕ) (p : Part) → slice_get ps i ≡ Some p → list_all (literal_is_true truth) (no_fault_literals plant k ps) ≡ true
      → list_all (literal_is_true truth) (no_fault_of plant (k + i) 0 (type_moves plant.types p)) ≡ true
  faults_at k [] i p at h = absurd (cc at)
  faults_at k (q ∷ ps) i p at h = by (λ j is. faults_at (k + 1) ps j p is two.1) i at
    where
      two : (list_all (literal_is_true truth) (no_fault_of plant k 0 (type_moves plant.types q)) ≡ true) × (list_all (literal_is_true truth) (no_fault_literals plant (k + 1) ps) ≡ true)
      two =
          and_parts (list_all (literal_is_true truth) (no_fault_of plant k 0 (type_moves plant.types q))) (list_all (literal_is_true truth) (no_fault_literals plant (k + 1) ps))
          (sym (list_all-append (literal_is_true truth) (no_fault_of plant k 0 (type_moves plant.types q)) (no_fault_literals plant (k + 1) ps)) ∙ h)

      by : ((j : ℕ) → slice_get ps j ≡ Some p → list_all (literal_is_true truth) (no_fault_of plant (k + 1 + j) 0 (type_moves plant.types p)) ≡ true) → (j : ℕ)
          → slice_get (q ∷ ps) j ≡ Some p → list_all (literal_is_true truth) (no_fault_of plant (k + j) 0 (type_moves plant.types p)) ≡ true
      by later zero is =
          let same : q ≡ p = cc is in
          let none : k ≡ k + 0 = omega arith in
          subst (λ m. list_all (literal_is_true truth) (no_fault_of plant m 0 (type_moves plant.types p)) ≡ true) none
          (subst (λ (x : Part). list_all (literal_is_true truth) (no_fault_of plant k 0 (type_moves plant.types x)) ≡ true) same two.0)
      by later (suc j) is =
          let next : k + 1 + j ≡ k + suc j = omega arith in
          subst (λ m. list_all (literal_is_true truth) (no_fault_of plant m 0 (type_moves plant.types p)) ≡ true) next (later j is)

  -- and that of a fault among those of its part
  fault_at : (k n : ℕ) (moves : List Move) (i : ℕ) (m : Move) → slice_get moves i ≡ Some m → is_no_fault m.kind ≡ false → list_all (literal_is_true truth) (no_fault_of plant k n moves) ≡ true
      → literal_is_true truth (literal (choice_bool plant k (n + i)) false) ≡ true
  fault_at k n [] i m at fault h = absurd (cc at)
  fault_at k n (x ∷ moves) i m at fault h = by (λ j is. fault_at k (n + 1) moves j m is fault rest) i at
    where
      rest : list_all (literal_is_true truth) (no_fault_of plant k (n + 1) moves) ≡ true
      rest = tail (is_no_fault x.kind) h
        where
          tail : (b : Bool) → list_all (literal_is_true truth) (cond b (no_fault_of plant k (n + 1) moves) (literal (choice_bool plant k n) false ∷ no_fault_of plant k (n + 1) moves)) ≡ true
              → list_all (literal_is_true truth) (no_fault_of plant k (n + 1) moves) ≡ true
          tail true e = e
          tail false e = (and_parts (literal_is_true truth (literal (choice_bool plant k n) false)) (list_all (literal_is_true truth) (no_fault_of plant k (n + 1) moves)) e).1

      first : is_no_fault x.kind ≡ false → literal_is_true truth (literal (choice_bool plant k n) false) ≡ true
      first e =
          (and_parts (literal_is_true truth (literal (choice_bool plant k n) false)) (list_all (literal_is_true truth) (no_fault_of plant k (n + 1) moves))
          (sym (ap (λ b. list_all (literal_is_true truth) (cond b (no_fault_of plant k (n + 1) moves) (literal (choice_bool plant k n) false ∷ no_fault_of plant k (n + 1) moves))) e) ∙ h)).0

      by : ((j : ℕ) → slice_get moves j ≡ Some m → literal_is_true truth (literal (choice_bool plant k (n + 1 + j)) false) ≡ true) → (j : ℕ) → slice_get (x ∷ moves) j ≡ Some m
          → literal_is_true truth (literal (choice_bool plant k (n + j)) false) ≡ true
      by later zero is =
          let same : x ≡ m = cc is in
          let none : n ≡ n + 0 = omega arith in
          subst (λ j. literal_is_true truth (literal (choice_bool plant k j) false) ≡ true) none (first (ap (λ (y : Move). is_no_fault y.kind) same ∙ fault))
      by later (suc j) is =
          let next : n + 1 + j ≡ n + suc j = omega arith in
          subst (λ i. literal_is_true truth (literal (choice_bool plant k i) false) ≡ true) next (later j is)

  module _ (ms : List MoveId) (code : EncodeMoves truth (first_choice plant) (move_counts plant) ms) where
    moved : (o : Option ComponentType) (n : ℕ) → option_and_then (λ (t : ComponentType). slice_get t.moves n) o ≡ slice_get (option_map_or (λ (t : ComponentType). t.moves) o []) n
    moved None n = refl
    moved (Some t) n = refl

    -- what stands at a place that there is
    got : {X : Type 0} (xs : List X) (n : ℕ) → n < length xs → (x : X) × (slice_get xs n ≡ Some x)
    got [] n below = absurd (omega (arith, below))
    got (x ∷ xs) zero below = (x, refl)
    got (x ∷ xs) (suc n) below = got xs n (omega (arith, below))

    pub nominal_means : list_all (literal_is_true truth) (no_fault_literals plant 0 plant.parts) ≡ true → is_nominal plant ms ≡ true
    nominal_means h = nominal_from plant.types plant.parts ms (code.each ∙ length-map plant.parts (part_moves plant.types)) each
      where
        each : (i : ℕ) (p : Part) → slice_get plant.parts i ≡ Some p → part_is_nominal plant.types p (move_number ms i) ≡ true
        each i p at = by (is_no_fault m.kind) refl
          where
            n : ℕ
            n = move_number ms i

            inside : i < length (move_counts plant)
            inside = let long = length-map plant.parts (part_moves plant.types) in let less = slice_get_within plant.parts i p at in omega (arith, long, less)

            below : n < length (type_moves plant.types p)
            below = let less = code.in_range i inside in let count = count_at plant i p at in omega (arith, less, count)

            found : (x : Move) × (slice_get (type_moves plant.types p) n ≡ Some x)
            found = got (type_moves plant.types p) n below

            m : Move
            m = found.0

            is : part_is_nominal plant.types p n ≡ is_no_fault m.kind
            is = ap (λ (o : Option Move). option_map_or (λ (x : Move). is_no_fault x.kind) o false) (moved (slice_get plant.types p.kind) n ∙ found.1)

            by : (b : Bool) → is_no_fault m.kind ≡ b → part_is_nominal plant.types p n ≡ true
            by true e = is ∙ e
            by false e =
                let zero_in : 0 + n ≡ n = omega arith in
                let zero_at : 0 + i ≡ i = omega arith in
                let false_there : literal_is_true truth (literal (choice_bool plant i n) false) ≡ true =
                subst (λ j. literal_is_true truth (literal (choice_bool plant j n) false) ≡ true) zero_at
                (subst (λ j. literal_is_true truth (literal (choice_bool plant (0 + i) j) false) ≡ true) zero_in
                (fault_at (0 + i) 0 (type_moves plant.types p) n m found.1 e (faults_at 0 plant.parts i p at h)))
                in
                let less = code.in_range i inside in
                let as_made = choice_false truth (record { first = first_choice plant; counts = move_counts plant }) ms code i n less in
                let clash : true ≡ false = sym false_there ∙ as_made ∙ ap not (eq-eqb n n refl) in
                absurd (cc clash)

  module _ (a : List ValId) (code : Encode truth (booleans_now plant) a) where
    pub modes_mean : (ps : List Part) (vs : List ValId) → modes_fit (plant_ranges plant) ps vs ≡ true → list_all (literal_is_true truth) (mode_literals plant ps vs) ≡ true → has_modes ps vs a ≡ true
    modes_mean [] [] fit h = refl
    modes_mean [] (v ∷ vs) fit h = absurd (cc fit)
    modes_mean (p ∷ ps) [] fit h = absurd (cc fit)
    modes_mean (p ∷ ps) (v ∷ vs) fit h =
        let fits = and_parts (has_value (plant_ranges plant) p.first.0 v.0) (modes_fit (plant_ranges plant) ps vs) fit in
        let two = and_parts (literal_is_true truth (value_literal (booleans_now plant) p.first.0 v.0 true)) (list_all (literal_is_true truth) (mode_literals plant ps vs)) h in
        and_from (nat_eq (number_of a p.first.0) v.0) (has_modes ps vs a) (sym (value_true truth (booleans_now plant) a code p.first.0 v.0 (mode_has plant p.first.0 v.0 fits.0)) ∙ two.0)
        (modes_mean ps vs fits.1 two.1)

    pub observed_mean : (os : List Observation) → All (ObservationFits plant) os → list_all (literal_is_true truth) (map (observed_literal (booleans_now plant)) os) ≡ true → meets a os ≡ true
    observed_mean [] fit h = refl
    observed_mean (o ∷ os) fit h =
        let two = and_parts (literal_is_true truth (observed_literal (booleans_now plant) o)) (list_all (literal_is_true truth) (map (observed_literal (booleans_now plant)) os)) h in
        and_from (agrees a o) (meets a os)
        (sym (value_true truth (booleans_now plant) a code o.var.0 o.val.0 (mode_has plant o.var.0 o.val.0 (All-head (ObservationFits plant) o os fit).value)) ∙ two.0)
        (observed_mean os (All-tail (ObservationFits plant) o os fit) two.1)

    pub controls_mean : (ps : List Pair) → All (HasChoice (control_sizes plant)) ps → list_all (literal_is_true truth) (map (control_literal plant) ps) ≡ true → has_controls (controls plant) a ps ≡ true
    controls_mean [] have h = refl
    controls_mean (p ∷ ps) have h =
        let c : IsControl plant p = control_of plant p (All-head (HasChoice (control_sizes plant)) p ps have) in
        let two = and_parts (literal_is_true truth (control_literal plant p)) (list_all (literal_is_true truth) (map (control_literal plant) ps)) h in
        and_from (has_control (controls plant) a p) (has_controls (controls plant) a ps)
        (ap (λ (o : Option VarId). option_map_or (λ (x : VarId). nat_eq (number_of a x.0) p.choice) o false) c.at
        ∙ sym (value_true truth (booleans_now plant) a code c.control.0 p.choice c.below)
        ∙ sym (ap (λ (x : VarId). literal_is_true truth (value_literal (booleans_now plant) x.0 p.choice true)) c.first)
        ∙ two.0)
        (controls_mean ps (All-tail (HasChoice (control_sizes plant)) p ps have) two.1)
