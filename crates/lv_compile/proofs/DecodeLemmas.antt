-- Truth values that make the clauses of a plant true encode a step.
use Rattle.std.proofs.Common.{◌≡◌, ◌+◌, ◌<◌, ℕ, zero, suc, Bool, true, false, nat_eq, nat_lt, ◌||◌, List, [], ◌∷◌, ◌++◌, length, map, take, slice_get, slice_index_or, Option, Some, None, refl, sym, ap, ◌∙◌, arith, ◌⊎◌, inl, inr}
use Rattle.std.specs.List.{sum, range_with_len, flat_map}
use Rattle.std.specs.Option.{option_map_or}
use Rattle.std.proofs.lemmas.Bool.{and_parts, cases_order}
use Rattle.std.proofs.lemmas.List.Sums.{sum_by-cons}
use Rattle.lv_base.specs.declared.ids.ValId.{ValId}
use Rattle.lv_base.specs.declared.ids.MoveId.{MoveId}
use Rattle.lv_clauses.specs.Literals.{same_truth}
use Rattle.lv_base.specs.Tree.{number_of}
use Rattle.lv_model.specs.declared.plant.Plant.{Plant}
use Rattle.lv_model.specs.declared.plant.ComponentType.{ComponentType}
use Rattle.lv_model.specs.declared.plant.Part.{Part}
use Rattle.lv_model.specs.Lists.{sizes, part_moves}
use Rattle.lv_model.specs.WellFormed.{part_fits, name_fits, is_well_formed}
use Rattle.lv_model.proofs.Reading.{All-at, All-of_test, parts_pass}
use Rattle.lv_compile.specs.Booleans.{Booleans, literal, booleans_now, booleans_next, first_choice}
use Rattle.lv_compile.specs.FormulaClauses.{formula_clauses}
use Rattle.lv_compile.specs.Laws.{clause_is_true, are_true, Encode, move_number, EncodeMoves, IsEncodedStep}
use Rattle.lv_compile.specs.ModelClauses.{not_both, apart, exactly_one, values_clauses, part_clauses, copy_clauses, moves_clauses, part_choice_clauses, choices_clauses, raw_clauses, model_clauses}
use Rattle.lv_compile.proofs.FormulaLemmas.{joined_true}
use Rattle.lv_compile.proofs.CleaningLemmas.{cleaned_true}
use Rattle.lv_compile.proofs.StepLemmas.{step_exact}

module _ (truth : ℕ → Bool) where
  pub both_parts : (ps qs : List (List _)) → are_true truth (ps ++ qs) ≡ true → (are_true truth ps ≡ true) × (are_true truth qs ≡ true)
  both_parts ps qs h = and_parts (are_true truth ps) (are_true truth qs) (sym (joined_true truth ps qs) ∙ h)

  -- of booleans in a row exactly one

  pair_of : (one start n : ℕ) → are_true truth (map (not_both one) (range_with_len start n)) ≡ true → truth one ≡ true → (j : ℕ) → j < n → truth (start + j) ≡ false
  pair_of one start zero h is j below = absurd (omega (arith, below))
  pair_of one start (suc n) h is zero below =
      let two = and_parts (clause_is_true truth (not_both one start)) (are_true truth (map (not_both one) (range_with_len (start + 1) n))) h in
      let none : start + 0 ≡ start = omega arith in
      ap truth none ∙ other (truth one) (truth start) is two.0
    where
      other : (p q : Bool) → p ≡ true → (same_truth p false || (same_truth q false || false)) ≡ true → q ≡ false
      other true true e f = absurd (cc)
      other true false e f = refl
      other false q e f = absurd (cc)
  pair_of one start (suc n) h is (suc j) below =
      let two = and_parts (clause_is_true truth (not_both one start)) (are_true truth (map (not_both one) (range_with_len (start + 1) n))) h in
      let e : start + suc j ≡ start + 1 + j = omega arith in
      ap truth e ∙ pair_of one (start + 1) n two.1 is j (omega (arith, below))

  alone_of : (first n : ℕ) → are_true truth (apart first n) ≡ true → (i j : ℕ) → i < j → j < n → truth (first + i) ≡ true → truth (first + j) ≡ false
  alone_of first zero h i j less below is = absurd (omega (arith, below))
  alone_of first (suc n) h i zero less below is = absurd (omega (arith, less))
  alone_of first (suc n) h zero (suc j) less below is =
      let two = both_parts (map (not_both first) (range_with_len (first + 1) n)) (apart (first + 1) n) h in
      let none : first + 0 ≡ first = omega arith in
      let e : first + suc j ≡ first + 1 + j = omega arith in
      ap truth e ∙ pair_of first (first + 1) n two.0 (sym (ap truth none) ∙ is) j (omega (arith, below))
  alone_of first (suc n) h (suc i) (suc j) less below is =
      let two = both_parts (map (not_both first) (range_with_len (first + 1) n)) (apart (first + 1) n) h in
      let d : first + suc i ≡ first + 1 + i = omega arith in
      let e : first + suc j ≡ first + 1 + j = omega arith in
      ap truth e ∙ alone_of (first + 1) n two.1 i j (omega (arith, less)) (omega (arith, below)) (sym (ap truth d) ∙ is)

  record True (first n : ℕ) : Type 0 where
    pub value : ℕ
    pub below : value < n
    pub is : truth (first + value) ≡ true

  true_of : (first n : ℕ) → clause_is_true truth (map (λ (k : ℕ). literal k true) (range_with_len first n)) ≡ true → True first n
  true_of first zero h = absurd (cc)
  true_of first (suc n) h = by (truth first) refl (true_of (first + 1) n)
    where
      by : (b : Bool) → truth first ≡ b → (clause_is_true truth (map (λ (k : ℕ). literal k true) (range_with_len (first + 1) n)) ≡ true → True (first + 1) n) → True first (suc n)
      by true e rest = let none : first + 0 ≡ first = omega arith in record { value = 0; below = omega arith; is = ap truth none ∙ e }
      by false e rest =
          let later : clause_is_true truth (map (λ (k : ℕ). literal k true) (range_with_len (first + 1) n)) ≡ true =
          sym (ap (λ (p : Bool). same_truth p true || clause_is_true truth (map (λ (k : ℕ). literal k true) (range_with_len (first + 1) n))) e) ∙ h in
          let found : True (first + 1) n = rest later in
          let below = found.below in
          let at : first + suc found.value ≡ first + 1 + found.value = omega arith in
          record { value = suc found.value; below = omega (arith, below); is = ap truth at ∙ found.is }

  record Chosen (first n : ℕ) : Type 0 where
    pub value : ℕ
    pub below : value < n
    pub are : (v : ℕ) → v < n → truth (first + v) ≡ nat_eq value v

  chosen_of : (first n : ℕ) → are_true truth (exactly_one first n) ≡ true → Chosen first n
  chosen_of first n h = record { value = found.value; below = found.below; are = λ v inside. by v inside (cases_order found.value v) (truth (first + v)) refl }
    where
      two : (clause_is_true truth (map (λ (k : ℕ). literal k true) (range_with_len first n)) ≡ true) × (are_true truth (apart first n) ≡ true)
      two = and_parts (clause_is_true truth (map (λ (k : ℕ). literal k true) (range_with_len first n))) (are_true truth (apart first n)) h

      found : True first n
      found = true_of first n two.0

      by : (v : ℕ) → v < n → (found.value ≡ v) ⊎ ((found.value < v) ⊎ (v < found.value)) → (b : Bool) → truth (first + v) ≡ b → truth (first + v) ≡ nat_eq found.value v
      by v inside (inl same) b e =
          let equal : nat_eq found.value v ≡ true = grind (arith, same) in
          let at : first + v ≡ first + found.value = omega (arith, same) in
          ap truth at ∙ found.is ∙ sym equal
      by v inside (inr (inl less)) b e =
          let other : nat_eq found.value v ≡ false = grind (arith, less) in
          alone_of first n two.1 found.value v less inside found.is ∙ sym other
      by v inside (inr (inr more)) true e =
          let clash : truth (first + found.value) ≡ false = alone_of first n two.1 v found.value more found.below e in
          let one : truth (first + found.value) ≡ true = found.is in
          absurd (cc)
      by v inside (inr (inr more)) false e = let other : nat_eq found.value v ≡ false = grind (arith, more) in e ∙ sym other

  -- of each variable one value

  pub record Row (first : ℕ) (ns : List ℕ) : Type 0 where
    pub values : List ValId
    pub long : length values ≡ length ns
    pub in_range : (x : ℕ) → x < length ns → number_of values x < slice_index_or ns x 0
    pub are : (x v : ℕ) → x < length ns → v < slice_index_or ns x 0 → truth (first + sum (take x ns) + v) ≡ nat_eq (number_of values x) v

  row_more : (first n : ℕ) (ns : List ℕ) → Chosen first n → Row (first + n) ns → Row first (n ∷ ns)
  row_more first n ns head rest = record { values = record { 0 = head.value } ∷ rest.values; long = let e = rest.long in omega (arith, e); in_range = ranges; are = truths }
    where
      ranges : (x : ℕ) → x < length (n ∷ ns) → number_of (record { 0 = head.value } ∷ rest.values) x < slice_index_or (n ∷ ns) x 0
      ranges zero inside = head.below
      ranges (suc x) inside = rest.in_range x (omega (arith, inside))

      truths : (x v : ℕ) → x < length (n ∷ ns) → v < slice_index_or (n ∷ ns) x 0 → truth (first + sum (take x (n ∷ ns)) + v) ≡ nat_eq (number_of (record { 0 = head.value } ∷ rest.values) x) v
      truths zero v inside below = let e : first + 0 + v ≡ first + v = omega arith in ap truth e ∙ head.are v below
      truths (suc x) v inside below =
          let more = sum_by-cons (λ (k : ℕ). k) n (take x ns) in
          let e : first + sum (n ∷ take x ns) + v ≡ first + n + sum (take x ns) + v = omega (arith, more) in
          ap truth e ∙ rest.are x v (omega (arith, inside)) below

  row_of : (first : ℕ) (ns : List ℕ) → are_true truth (values_clauses first ns) ≡ true → Row first ns
  row_of first [] h = record { values = []; long = refl; in_range = λ x inside. absurd (omega (arith, inside)); are = λ x v inside below. absurd (omega (arith, inside)) }
  row_of first (n ∷ ns) h =
      let two = both_parts (exactly_one first n) (values_clauses (first + n) ns) h in
      row_more first n ns (chosen_of first n two.0) (row_of (first + n) ns two.1)

  -- of each part one move

  pub record HasType (types : List ComponentType) (p : Part) : Type 0 where
    pub t : ComponentType
    pub kind : slice_get types p.kind ≡ Some t

  pub record Moves (types : List ComponentType) (first : ℕ) (ps : List Part) : Type 0 where
    pub moves : List MoveId
    pub code : EncodeMoves truth first (map (part_moves types) ps) moves

  part_chosen : (a b : Booleans) (types : List ComponentType) (choice : ℕ) (p : Part) → HasType types p → are_true truth (part_choice_clauses a b types choice p) ≡ true → Chosen choice (part_moves types p)
  part_chosen a b types choice p has h =
      let own : are_true truth (exactly_one choice (length has.t.moves) ++ moves_clauses a b p.first.0 choice has.t.moves 0 has.t.moves) ≡ true =
      sym (ap (λ o. are_true truth (option_map_or (λ (t : ComponentType). exactly_one choice (length t.moves) ++ moves_clauses a b p.first.0 choice t.moves 0 t.moves) o [])) has.kind) ∙ h in
      let many : part_moves types p ≡ length has.t.moves = ap (λ o. option_map_or (λ (t : ComponentType). length t.moves) o 0) has.kind in
      let one : Chosen choice (length has.t.moves) = chosen_of choice (length has.t.moves) (both_parts (exactly_one choice (length has.t.moves)) (moves_clauses a b p.first.0 choice has.t.moves 0 has.t.moves) own).0 in
      let below = one.below in
      record { value = one.value; below = omega (arith, below, many); are = λ v inside. one.are v (omega (arith, inside, many)) }

  moves_more : (types : List ComponentType) (choice : ℕ) (p : Part) (ps : List Part) → Chosen choice (part_moves types p) → Moves types (choice + part_moves types p) ps → Moves types choice (p ∷ ps)
  moves_more types choice p ps head rest =
      record { moves = record { 0 = head.value } ∷ rest.moves; code = record { each = let e = rest.code.each in omega (arith, e); in_range = ranges; values = truths } }
    where
      ranges : (k : ℕ) → k < length (part_moves types p ∷ map (part_moves types) ps) → move_number (record { 0 = head.value } ∷ rest.moves) k < slice_index_or (part_moves types p ∷ map (part_moves types) ps) k 0
      ranges zero inside = head.below
      ranges (suc k) inside = rest.code.in_range k (omega (arith, inside))

      truths : (k n : ℕ) → k < length (part_moves types p ∷ map (part_moves types) ps) → n < slice_index_or (part_moves types p ∷ map (part_moves types) ps) k 0
          → truth (choice + sum (take k (part_moves types p ∷ map (part_moves types) ps)) + n) ≡ nat_eq (move_number (record { 0 = head.value } ∷ rest.moves) k) n
      truths zero n inside below = let e : choice + 0 + n ≡ choice + n = omega arith in ap truth e ∙ head.are n below
      truths (suc k) n inside below =
          let more = sum_by-cons (λ (x : ℕ). x) (part_moves types p) (take k (map (part_moves types) ps)) in
          let e : choice + sum (part_moves types p ∷ take k (map (part_moves types) ps)) + n ≡ choice + part_moves types p + sum (take k (map (part_moves types) ps)) + n = omega (arith, more) in
          ap truth e ∙ rest.code.values k n (omega (arith, inside)) below

  pub moves_of : (a b : Booleans) (types : List ComponentType) (choice : ℕ) (ps : List Part) → ((k : ℕ) (p : Part) → slice_get ps k ≡ Some p → HasType types p)
      → are_true truth (choices_clauses a b types choice ps) ≡ true → Moves types choice ps
  moves_of a b types choice [] each h =
      record { moves = []; code = record { each = refl; in_range = λ k inside. absurd (omega (arith, inside)); values = λ k n inside below. absurd (omega (arith, inside)) } }
  moves_of a b types choice (p ∷ ps) each h =
      let two = both_parts (part_choice_clauses a b types choice p) (choices_clauses a b types (choice + part_moves types p) ps) h in
      moves_more types choice p ps (part_chosen a b types choice p (each 0 p refl) two.0)
      (moves_of a b types (choice + part_moves types p) ps (λ k q here. each (suc k) q here) two.1)

  -- a part of a well-formed plant has a type
  pub typed : (plant : Plant) → is_well_formed plant ≡ true → (k : ℕ) (p : Part) → slice_get plant.parts k ≡ Some p → HasType plant.types p
  typed plant h k p here = by (slice_get plant.types p.kind) refl
    where
      fit : part_fits plant.types p ≡ true
      fit = All-at (λ (q : Part). part_fits plant.types q ≡ true) plant.parts k p (All-of_test (part_fits plant.types) (λ (q : Part). part_fits plant.types q ≡ true) plant.parts (λ q e. e) (parts_pass plant h).1) here

      by : (o : Option ComponentType) → slice_get plant.types p.kind ≡ o → HasType plant.types p
      by None kind =
          let e : option_map_or (λ (t : ComponentType). nat_lt p.start.0 (length t.modes)) (slice_get plant.types p.kind) false ≡ true = (and_parts (name_fits p.name) _ fit).1 in
          absurd (cc)
      by (Some t) kind = record { t = t; kind = kind }

  pub copy_values : (b : Booleans) (plant : Plant) → are_true truth (copy_clauses b plant) ≡ true → Row b.first b.sizes
  copy_values b plant h =
      let front = (both_parts (values_clauses b.first b.sizes ++ flat_map (part_clauses b plant.types) plant.parts) (flat_map (formula_clauses b 0 true) plant.laws) h).0 in
      row_of b.first b.sizes (both_parts (values_clauses b.first b.sizes) (flat_map (part_clauses b plant.types) plant.parts) front).0

  pub decoded : (plant : Plant) → is_well_formed plant ≡ true → are_true truth (model_clauses plant) ≡ true → IsEncodedStep plant truth
  decoded plant h all =
      record {
        before = first.values;
        after = second.values;
        moves = chosen.moves;
        whole_before = first.long;
        whole_after = second.long;
        now = now;
        next = next;
        choice = chosen.code;
        step = sym (step_exact plant h truth first.values second.values now next chosen.moves chosen.code) ∙ all;
      }
    where
      raw : are_true truth (raw_clauses plant) ≡ true
      raw = sym (cleaned_true truth (raw_clauses plant)) ∙ all

      parts : (are_true truth (copy_clauses (booleans_now plant) plant ++ copy_clauses (booleans_next plant) plant) ≡ true) × (are_true truth (choices_clauses (booleans_now plant) (booleans_next plant) plant.types (first_choice plant) plant.parts) ≡ true)
      parts = both_parts (copy_clauses (booleans_now plant) plant ++ copy_clauses (booleans_next plant) plant) (choices_clauses (booleans_now plant) (booleans_next plant) plant.types (first_choice plant) plant.parts) raw

      copies : (are_true truth (copy_clauses (booleans_now plant) plant) ≡ true) × (are_true truth (copy_clauses (booleans_next plant) plant) ≡ true)
      copies = both_parts (copy_clauses (booleans_now plant) plant) (copy_clauses (booleans_next plant) plant) parts.0

      first : Row 0 (sizes plant)
      first = copy_values (booleans_now plant) plant copies.0

      second : Row (sum (sizes plant)) (sizes plant)
      second = copy_values (booleans_next plant) plant copies.1

      chosen : Moves plant.types (first_choice plant) plant.parts
      chosen = moves_of (booleans_now plant) (booleans_next plant) plant.types (first_choice plant) plant.parts (typed plant h) parts.1

      now : Encode truth (booleans_now plant) first.values
      now = record { in_range = first.in_range; values = first.are }

      next : Encode truth (booleans_next plant) second.values
      next = record { in_range = second.in_range; values = second.are }
