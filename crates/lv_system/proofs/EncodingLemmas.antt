-- The list that encodes numbers has just their booleans true.
use Rattle.std.proofs.Common.{◌≡◌, ◌+◌, ◌<◌, ℕ, suc, zero, Bool, false, nat_eq, List, [], ◌∷◌, ◌++◌, length, take, slice_index_or, refl, ap, ◌∙◌, arith}
use Rattle.std.specs.List.{sum}
use Rattle.std.proofs.lemmas.List.{length-append, get_or_append_left, get_or-append-add}
use Rattle.std.proofs.lemmas.List.FromFn.{length-map-range_with_len, get_or-map-range_with_len}
use Rattle.std.proofs.lemmas.List.Sums.{sum_by-cons}
use Rattle.lv_base.specs.declared.ids.ValId.{ValId}
use Rattle.lv_base.specs.declared.ids.MoveId.{MoveId}
use Rattle.lv_base.specs.Tree.{number_of}
use Rattle.lv_model.specs.declared.plant.Plant.{Plant}
use Rattle.lv_model.specs.Lists.{sizes, move_counts}
use Rattle.lv_compile.specs.Booleans.{booleans_now, booleans_next, first_choice, bool_count}
use Rattle.lv_compile.specs.Laws.{Encode, EncodeMoves, move_number}
use Rattle.lv_compile.proofs.BooleanLemmas.{among_all}
use Rattle.lv_system.specs.Encoding.{truth_in, one_of, rows, value_rows, move_rows, encoded}
use Rattle.lv_system.specs.Laws.{IsAssignment, IsFullChoice}

module _ {X : Type 0} (number : X → ℕ) where
  pub length-rows : (ns : List ℕ) (xs : List X) → length xs ≡ length ns → length (rows number ns xs) ≡ sum ns
  length-rows [] xs e = refl
  length-rows (n ∷ ns) [] e = absurd (omega (arith, e))
  length-rows (n ∷ ns) (x ∷ xs) e =
      let rest = length-rows ns xs (omega (arith, e)) in
      let one = length-map-range_with_len (nat_eq (number x)) 0 n in
      let both = length-append (one_of n (number x)) (rows number ns xs) in
      let more = sum_by-cons (λ (k : ℕ). k) n ns in
      omega (arith, rest, one, both, more)

  pub row_at : (ns : List ℕ) (xs : List X) (x v : ℕ) (d : X) → length xs ≡ length ns → x < length ns → v < slice_index_or ns x 0
      → truth_in (rows number ns xs) (sum (take x ns) + v) ≡ nat_eq (number (slice_index_or xs x d)) v
  row_at [] xs x v d e there below = absurd (omega (arith, there))
  row_at (n ∷ ns) [] x v d e there below = absurd (omega (arith, e))
  row_at (n ∷ ns) (y ∷ ys) zero v d e there below =
      let none : 0 + v ≡ v = omega arith in
      let one = length-map-range_with_len (nat_eq (number y)) 0 n in
      ap (truth_in (rows number (n ∷ ns) (y ∷ ys))) none
      ∙ get_or_append_left (one_of n (number y)) (rows number ns ys) false v (omega (arith, below, one))
      ∙ get_or-map-range_with_len (nat_eq (number y)) 0 n v v false below (omega arith)
  row_at (n ∷ ns) (y ∷ ys) (suc x) v d e there below =
      let one = length-map-range_with_len (nat_eq (number y)) 0 n in
      let more = sum_by-cons (λ (k : ℕ). k) n (take x ns) in
      let at : sum (n ∷ take x ns) + v ≡ length (one_of n (number y)) + (sum (take x ns) + v) = omega (arith, one, more) in
      ap (truth_in (rows number (n ∷ ns) (y ∷ ys))) at
      ∙ get_or-append-add (one_of n (number y)) (rows number ns ys) (sum (take x ns) + v) false
      ∙ row_at ns ys x v d (omega (arith, e)) (omega (arith, there)) below

module _ (plant : Plant) (a b : List ValId) (ms : List MoveId) (before : IsAssignment (sizes plant) a) (after : IsAssignment (sizes plant) b) (moves : IsFullChoice (move_counts plant) ms) where
  abbrev first : List Bool
  first = value_rows (sizes plant) a

  abbrev second : List Bool
  second = value_rows (sizes plant) b

  abbrev third : List Bool
  third = move_rows (move_counts plant) ms

  long_first : length first ≡ sum (sizes plant)
  long_first = length-rows (λ (v : ValId). v.0) (sizes plant) a before.whole

  long_second : length second ≡ sum (sizes plant)
  long_second = length-rows (λ (v : ValId). v.0) (sizes plant) b after.whole

  long_third : length third ≡ sum (move_counts plant)
  long_third = length-rows (λ (m : MoveId). m.0) (move_counts plant) ms moves.whole

  pub length-encoded : length (encoded plant a b ms) ≡ bool_count plant
  length-encoded =
      let whole = length-append first (second ++ third) in
      let rest = length-append second third in
      let one = long_first in let two = long_second in let three = long_third in
      omega (arith, whole, rest, one, two, three)

  pub encodes_now : Encode (truth_in (encoded plant a b ms)) (booleans_now plant) a
  encodes_now = record { in_range = before.in_range; values = values }
    where
      values : (x v : ℕ) → x < length (sizes plant) → v < slice_index_or (sizes plant) x 0
          → truth_in (first ++ (second ++ third)) (0 + sum (take x (sizes plant)) + v) ≡ nat_eq (number_of a x) v
      values x v there below =
          let among = among_all (sizes plant) x there in
          let one = long_first in
          let at : 0 + sum (take x (sizes plant)) + v ≡ sum (take x (sizes plant)) + v = omega arith in
          ap (truth_in (first ++ (second ++ third))) at
          ∙ get_or_append_left first (second ++ third) false (sum (take x (sizes plant)) + v) (omega (arith, among, one, below))
          ∙ row_at (λ (w : ValId). w.0) (sizes plant) a x v (record { 0 = 0 }) before.whole there below

  pub encodes_next : Encode (truth_in (encoded plant a b ms)) (booleans_next plant) b
  encodes_next = record { in_range = after.in_range; values = values }
    where
      values : (x v : ℕ) → x < length (sizes plant) → v < slice_index_or (sizes plant) x 0
          → truth_in (first ++ (second ++ third)) (sum (sizes plant) + sum (take x (sizes plant)) + v) ≡ nat_eq (number_of b x) v
      values x v there below =
          let among = among_all (sizes plant) x there in
          let one = long_first in
          let two = long_second in
          let at : sum (sizes plant) + sum (take x (sizes plant)) + v ≡ length first + (sum (take x (sizes plant)) + v) = omega (arith, one) in
          ap (truth_in (first ++ (second ++ third))) at
          ∙ get_or-append-add first (second ++ third) (sum (take x (sizes plant)) + v) false
          ∙ get_or_append_left second third false (sum (take x (sizes plant)) + v) (omega (arith, among, two, below))
          ∙ row_at (λ (w : ValId). w.0) (sizes plant) b x v (record { 0 = 0 }) after.whole there below

  pub encodes_moves : EncodeMoves (truth_in (encoded plant a b ms)) (first_choice plant) (move_counts plant) ms
  encodes_moves = record { each = moves.whole; in_range = moves.in_range; values = values }
    where
      values : (k n : ℕ) → k < length (move_counts plant) → n < slice_index_or (move_counts plant) k 0
          → truth_in (first ++ (second ++ third)) (first_choice plant + sum (take k (move_counts plant)) + n) ≡ nat_eq (move_number ms k) n
      values k n there below =
          let one = long_first in
          let two = long_second in
          let at : first_choice plant + sum (take k (move_counts plant)) + n ≡ length first + (length second + (sum (take k (move_counts plant)) + n)) = omega (arith, one, two) in
          ap (truth_in (first ++ (second ++ third))) at
          ∙ get_or-append-add first (second ++ third) (length second + (sum (take k (move_counts plant)) + n)) false
          ∙ get_or-append-add second third (sum (take k (move_counts plant)) + n) false
          ∙ row_at (λ (m : MoveId). m.0) (move_counts plant) ms k n (record { 0 = 0 }) moves.whole there below
