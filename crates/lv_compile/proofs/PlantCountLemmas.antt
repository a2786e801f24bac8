-- The clauses of a well-formed plant are no more than its count.
use Rattle.std.proofs.Common.{◌≡◌, ◌+◌, ◌≤◌, ℕ, zero, suc, Bool, true, false, not, nat_eq, nat_lt, ◌&&◌, ◌||◌, if◌then◌else◌, List, [], ◌∷◌, ◌++◌, length, map, take, sum_by, slice_get, Option, Some, None, refl, ap, ap₂, ◌∙◌, arith}
use Rattle.std.specs.List.{flat_map, list_all, range_with_len}
use Rattle.std.specs.Option.{option_map_or}
use Rattle.std.proofs.lemmas.Bool.{and_parts}
use Rattle.std.proofs.lemmas.List.{length-append, length-map}
use Rattle.std.proofs.lemmas.List.Sums.{sum_by-cons}
use Rattle.lv_base.specs.declared.ids.Lit.{Lit}
use Rattle.lv_base.specs.declared.range.Range.{Range}
use Rattle.lv_base.specs.Tree.{Tree}
use Rattle.lv_base.specs.Fits.{fits}
use Rattle.lv_base.specs.Counts.{size_at, truth_count}
use Rattle.lv_model.specs.declared.plant.Move.{Move}
use Rattle.lv_model.specs.declared.plant.MoveKind.{MoveKind}
use Rattle.lv_model.specs.declared.plant.MoveKind.TheVariants.{Step, Stay, Fault}
use Rattle.lv_model.specs.declared.plant.ModeFormula.{ModeFormula}
use Rattle.lv_model.specs.Meaning.{is_step_kind}
use Rattle.lv_model.specs.WellFormed.{mode_formula_fits, guard_fits}
use Rattle.lv_model.specs.Counts.{pairs, one_of_count, has_count, formula_count, mode_formula_count, guard_count, denied_count, closed_count, goes_count, moves_count, choice_count, mode_formula_has_count, guard_has_counts}
use Rattle.lv_compile.specs.Booleans.{Booleans, literal, value_literal}
use Rattle.lv_compile.specs.FormulaClauses.{Clauses, size_of, when_true, formula_clauses}
use Rattle.lv_compile.specs.Cleaning.{is_tautology, cleaned}
use Rattle.lv_compile.specs.ModelClauses.{not_both, apart, exactly_one, values_clauses, mode_formula_clauses, guard_clauses, closed_clauses, goes_clauses, move_clauses, moves_clauses, choice_clauses}
use Rattle.lv_compile.proofs.LengthLemmas.{length_row, formula_bounded}
use Rattle.lv_compile.proofs.ChoiceLemmas.{all_taken}

length_apart : (first n : ℕ) → length (apart first n) ≡ pairs n
length_apart first zero = refl
length_apart first (suc n) =
    let rest = length_apart (first + 1) n in
    let row = length_row n (first + 1) in
    let one = length-map (range_with_len (first + 1) n) (not_both first) in
    let all = length-append (map (not_both first) (range_with_len (first + 1) n)) (apart (first + 1) n) in
    omega (arith, rest, row, one, all)

pub length_one_of : (first n : ℕ) → length (exactly_one first n) ≡ one_of_count n
length_one_of first n = let e = length_apart first n in omega (arith, e)

pub length_values : (first : ℕ) (ns : List ℕ) → length (values_clauses first ns) ≡ sum_by one_of_count ns
length_values first [] = refl
length_values first (n ∷ ns) =
    let rest = length_values (first + n) ns in
    let one = length_one_of first n in
    let all = length-append (exactly_one first n) (values_clauses (first + n) ns) in
    let more = sum_by-cons one_of_count n ns in
    omega (arith, rest, one, all, more)

pub length_cleaned : (cs : Clauses) → length (cleaned cs) ≤ length cs
length_cleaned [] = omega arith
length_cleaned (c ∷ cs) = by (is_tautology c) refl (length_cleaned cs)
  where
    by : (t : Bool) → is_tautology c ≡ t → length (cleaned cs) ≤ length cs → length (cleaned (c ∷ cs)) ≤ suc (length cs)
    by true e rest = rw e (omega (arith, rest))
    by false e rest = rw e (omega (arith, rest))

-- lists behind one another, each no longer than its share
flat_bounded : {X : Type 0} (f : X → Clauses) (g : X → ℕ) (p q : X → Bool) → ((x : X) → p x ≡ true → q x ≡ true → length (f x) ≤ g x) → (xs : List X) → list_all p xs ≡ true → list_all q xs ≡ true
    → length (flat_map f xs) ≤ sum_by g xs
flat_bounded f g p q each [] h k = omega arith
flat_bounded f g p q each (x ∷ xs) h k =
    let ps = and_parts (p x) (list_all p xs) h in
    let qs = and_parts (q x) (list_all q xs) k in
    let one = each x ps.0 qs.0 in
    let rest = flat_bounded f g p q each xs ps.1 qs.1 in
    let long = length-append (f x) (flat_map f xs) in
    let more = sum_by-cons g x xs in
    omega (arith, one, rest, long, more)

module _ (ranges : List Range) (b : Booleans) (base : ℕ) (sizes : List ℕ) (few : (x : ℕ) (r : Range) → slice_get ranges x ≡ Some r → size_of b (base + x) ≤ size_at sizes x) where
  pub laws_bounded : (fs : List Tree) → list_all (fits ranges) fs ≡ true → list_all (has_count sizes true) fs ≡ true → length (flat_map (formula_clauses b base true) fs) ≤ sum_by (formula_count sizes true) fs
  laws_bounded fs h k = flat_bounded (formula_clauses b base true) (formula_count sizes true) (fits ranges) (has_count sizes true) (λ f p q. formula_bounded ranges b base sizes few f p true q) fs h k

  pub mode_formulas_bounded : (modes : ℕ) (fs : List ModeFormula) → list_all (mode_formula_fits ranges modes) fs ≡ true → list_all (mode_formula_has_count sizes) fs ≡ true
      → length (flat_map (mode_formula_clauses b base) fs) ≤ sum_by (mode_formula_count sizes) fs
  mode_formulas_bounded modes fs h k =
      flat_bounded (mode_formula_clauses b base) (mode_formula_count sizes) (mode_formula_fits ranges modes) (mode_formula_has_count sizes)
      (λ f p q.
      let own = formula_bounded ranges b base sizes few f.condition (and_parts (nat_lt f.mode.0 modes) (fits ranges f.condition) p).1 true q in
      let same = length-map (formula_clauses b base true f.condition) (λ (c : List Lit). value_literal b base f.mode.0 false ∷ c) in
      omega (arith, own, same)) fs h k

  guard_positive : (o : Option Tree) (step : Bool) → option_map_or (fits ranges) o true ≡ true → option_map_or (λ (g : Tree). has_count sizes true g && (not step || has_count sizes false g)) o true ≡ true
      → length (option_map_or (formula_clauses b base true) o (when_true true)) ≤ option_map_or (formula_count sizes true) o (truth_count true)
  guard_positive None step h k = omega arith
  guard_positive (Some f) step h k = formula_bounded ranges b base sizes few f h true (and_parts (has_count sizes true f) (not step || has_count sizes false f) k).0

  guard_negative : (o : Option Tree) (step : Bool) → step ≡ true → option_map_or (fits ranges) o true ≡ true
      → option_map_or (λ (g : Tree). has_count sizes true g && (not step || has_count sizes false g)) o true ≡ true
      → length (option_map_or (formula_clauses b base false) o (when_true false)) ≤ option_map_or (formula_count sizes false) o (truth_count false)
  guard_negative None step is h k = omega arith
  guard_negative (Some f) true is h k = formula_bounded ranges b base sizes few f h false (and_parts (has_count sizes true f) (has_count sizes false f) k).1
  guard_negative (Some f) false is h k = absurd (cc)

  closed_bounded : (mode : ℕ) (ms : List Move) → list_all (guard_fits ranges) ms ≡ true → list_all (guard_has_counts sizes) ms ≡ true → length (closed_clauses b base mode ms) ≤ closed_count sizes mode ms
  closed_bounded mode [] h k = omega arith
  closed_bounded mode (m ∷ ms) h k = by (is_step_kind m.kind) refl (nat_eq m.source.0 mode) refl (closed_bounded mode ms ps.1 qs.1)
    where
      ps : (guard_fits ranges m ≡ true) × (list_all (guard_fits ranges) ms ≡ true)
      ps = and_parts (guard_fits ranges m) (list_all (guard_fits ranges) ms) h

      qs : (guard_has_counts sizes m ≡ true) × (list_all (guard_has_counts sizes) ms ≡ true)
      qs = and_parts (guard_has_counts sizes m) (list_all (guard_has_counts sizes) ms) k

      more : sum_by (denied_count sizes mode) (m ∷ ms) ≡ denied_count sizes mode m + sum_by (denied_count sizes mode) ms
      more = sum_by-cons (denied_count sizes mode) m ms

      by : (s : Bool) → is_step_kind m.kind ≡ s → (e : Bool) → nat_eq m.source.0 mode ≡ e → length (closed_clauses b base mode ms) ≤ closed_count sizes mode ms
          → length (closed_clauses b base mode (m ∷ ms)) ≤ closed_count sizes mode (m ∷ ms)
      by true f true g rest =
          let own : length (guard_clauses b base false m) ≤ guard_count sizes false m = guard_negative m.guard (is_step_kind m.kind) f ps.0 qs.0 in
          let share : denied_count sizes mode m ≡ guard_count sizes false m = ap₂ (λ (x y : Bool). if x && y then guard_count sizes false m else 0) f g in
          let list : closed_clauses b base mode (m ∷ ms) ≡ guard_clauses b base false m ++ closed_clauses b base mode ms = rw (f, g) refl in
          let size = ap length list ∙ length-append (guard_clauses b base false m) (closed_clauses b base mode ms) in
          let whole = more in
          omega (arith, own, share, size, rest, whole)
      by true f false g rest =
          let list : closed_clauses b base mode (m ∷ ms) ≡ closed_clauses b base mode ms = rw (f, g) refl in
          let size = ap length list in
          let whole = more in
          omega (arith, size, rest, whole)
      by false f e g rest =
          let list : closed_clauses b base mode (m ∷ ms) ≡ closed_clauses b base mode ms = rw (f) refl in
          let size = ap length list in
          let whole = more in
          omega (arith, size, rest, whole)

  module _ (moves : List Move) (all_fit : list_all (guard_fits ranges) moves ≡ true) (all_have : list_all (guard_has_counts sizes) moves ≡ true) where
    goes_bounded : (kind : MoveKind) (n : ℕ) (m : Move) → guard_fits ranges m ≡ true → guard_has_counts sizes m ≡ true → length (goes_clauses kind b base moves n m) ≤ goes_count kind sizes moves n m
    goes_bounded Step n m h k =
        let own : length (guard_clauses b base true m) ≤ guard_count sizes true m = guard_positive m.guard (is_step_kind m.kind) h k in
        let closed = closed_bounded m.source.0 (take n moves) (all_taken (guard_fits ranges) n moves all_fit) (all_taken (guard_has_counts sizes) n moves all_have) in
        let long = length-append (guard_clauses b base true m) (closed_clauses b base m.source.0 (take n moves)) in
        omega (arith, own, closed, long)
    goes_bounded Stay n m h k = closed_bounded m.source.0 moves all_fit all_have
    goes_bounded Fault n m h k = guard_positive m.guard (is_step_kind m.kind) h k

    moves_bounded : (c : Booleans) (choice n : ℕ) (ms : List Move) → list_all (guard_fits ranges) ms ≡ true → list_all (guard_has_counts sizes) ms ≡ true
        → length (moves_clauses b c base choice moves n ms) ≤ moves_count sizes moves n ms
    moves_bounded c choice n [] h k = omega arith
    moves_bounded c choice n (m ∷ ms) h k =
        let ps = and_parts (guard_fits ranges m) (list_all (guard_fits ranges) ms) h in
        let qs = and_parts (guard_has_counts sizes m) (list_all (guard_has_counts sizes) ms) k in
        let own = goes_bounded m.kind n m ps.0 qs.0 in
        let rest = moves_bounded c choice (n + 1) ms ps.1 qs.1 in
        let same = length-map (goes_clauses m.kind b base moves n m) (λ (l : List Lit). literal (choice + n) false ∷ l) in
        let long = length-append (move_clauses b c base choice moves n m) (moves_clauses b c base choice moves (n + 1) ms) in
        omega (arith, own, rest, same, long)

    pub choice_bounded : (c : Booleans) (choice : ℕ) → length (choice_clauses b c base choice moves) ≤ choice_count sizes moves
    choice_bounded c choice =
        let one = length_one_of choice (length moves) in
        let all = moves_bounded c choice 0 moves all_fit all_have in
        let long = length-append (exactly_one choice (length moves)) (moves_clauses b c base choice moves 0 moves) in
        omega (arith, one, all, long)
