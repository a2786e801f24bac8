-- The system of a window: its clauses are true exactly where steps are encoded, one behind the other.
use Rattle.std.proofs.Common.{◌≡◌, ◌+◌, ◌*◌, ◌<◌, ◌≤◌, ◌^◌, ℕ, suc, zero, Bool, true, false, nat_eq, List, [], ◌∷◌, ◌++◌, length, take, is_some, slice_index_or, append_assoc, append-nil, All, refl, sym, subst, ap, ◌∙◌, arith}
use Rattle.std.specs.List.{sum, list_all}
use Rattle.std.proofs.lemmas.List.{length-append, get_or_append_left, get_or-append-add}
use Rattle.std.proofs.lemmas.List.Sums.{sum_by-append}
use Rattle.lv_base.specs.declared.ids.Lit.{Lit}
use Rattle.lv_base.specs.declared.ids.ValId.{ValId}
use Rattle.lv_base.specs.declared.ids.MoveId.{MoveId}
use Rattle.lv_base.specs.declared.ids.ClauseId.{ClauseId}
use Rattle.lv_clauses.specs.Literals.{clause_holds, is_clause}
use Rattle.lv_clauses.specs.ClauseMap.{satisfies}
use Rattle.lv_clauses.proofs.LiteralLemmas.{all_member}
use Rattle.lv_base.specs.Tree.{number_of}
use Rattle.lv_model.specs.declared.plant.Plant.{Plant}
use Rattle.lv_model.specs.Lists.{sizes, move_counts}
use Rattle.lv_model.specs.WellFormed.{is_well_formed}
use Rattle.lv_model.specs.Meaning.{is_feasible}
use Rattle.lv_model.proofs.Reading.{All-of_test}
use Rattle.lv_compile.specs.Booleans.{booleans_from}
use Rattle.lv_compile.specs.Laws.{Encode, EncodeMoves, move_number}
use Rattle.lv_compile.specs.Windows.{past_copies, past_moves, window_choice, window_bools, window_clauses}
use Rattle.lv_compile.specs.WindowLaws.{Further, counts_of, LeadOn, EncodeOn, IsEncodedWindow}
use Rattle.lv_compile.proofs.BooleanLemmas.{among_all}
use Rattle.lv_compile.proofs.SumLemmas.{mapped_sum, few_choices}
use Rattle.lv_compile.proofs.WindowLemmas.{few_past, window_are}
use Rattle.lv_compile.proofs.WindowDecoding.{window_decoded, window_satisfied, choices_joined}
use Rattle.lv_system.specs.Encoding.{truth_in, value_rows, move_rows}
use Rattle.lv_system.specs.Laws.{IsAssignment, IsFullChoice}
use Rattle.lv_system.specs.Numbering.{AreNumbered, IsOver}
use Rattle.lv_system.specs.Windows.{copies_from, window_choices, WindowValue, IsWindowOf, AreWhole, after_rows, moves_rows, encoded_window, IsModelOfWindow}
use Rattle.lv_system.proofs.EncodingLemmas.{length-rows, row_at}
use Rattle.lv_system.proofs.NumberingLemmas.{among_numbered, numbered_hold, all_present_hold}

pub model_is_a_window : (plant : Plant) → is_well_formed plant ≡ true → (steps : ℕ) (s : WindowValue) → IsWindowOf plant steps s → (values : List Bool) → satisfies values s.set.slots ≡ true
    → IsEncodedWindow plant steps (truth_in values)
model_is_a_window plant h steps s is values all =
    window_decoded (truth_in values) plant h steps (numbered_hold values s.set.slots all is.ids (window_clauses plant steps) is.numbered.each)

-- rows of truth values have just their booleans true

module _ (plant : Plant) (whole : List Bool) where
  -- the values that stand behind so many truth values
  value_encoded : (front back : List Bool) (first : ℕ) (a : List ValId) → IsAssignment (sizes plant) a → whole ≡ front ++ (value_rows (sizes plant) a ++ back) → length front ≡ first
      → Encode (truth_in whole) (booleans_from plant first) a
  value_encoded front back first a is whole_is long = record { in_range = is.in_range; values = values }
    where
      row : List Bool
      row = value_rows (sizes plant) a

      values : (x v : ℕ) → x < length (sizes plant) → v < slice_index_or (sizes plant) x 0 → truth_in whole (first + sum (take x (sizes plant)) + v) ≡ nat_eq (number_of a x) v
      values x v there below =
          let among = among_all (sizes plant) x there in
          let own = length-rows (λ (w : ValId). w.0) (sizes plant) a is.whole in
          let at : first + sum (take x (sizes plant)) + v ≡ length front + (sum (take x (sizes plant)) + v) = omega (arith, long) in
          (λ i. truth_in (whole_is i) (at i))
          ∙ get_or-append-add front (row ++ back) (sum (take x (sizes plant)) + v) false
          ∙ get_or_append_left row back false (sum (take x (sizes plant)) + v) (omega (arith, among, own, below))
          ∙ row_at (λ (w : ValId). w.0) (sizes plant) a x v (record { 0 = 0 }) is.whole there below

  moves_encoded : (front back : List Bool) (choice : ℕ) (ms : List MoveId) → IsFullChoice (move_counts plant) ms → whole ≡ front ++ (move_rows (move_counts plant) ms ++ back) → length front ≡ choice
      → EncodeMoves (truth_in whole) choice (move_counts plant) ms
  moves_encoded front back choice ms is whole_is long = record { each = is.whole; in_range = is.in_range; values = values }
    where
      row : List Bool
      row = move_rows (move_counts plant) ms

      values : (k n : ℕ) → k < length (move_counts plant) → n < slice_index_or (move_counts plant) k 0 → truth_in whole (choice + sum (take k (move_counts plant)) + n) ≡ nat_eq (move_number ms k) n
      values k n there below =
          let among = among_all (move_counts plant) k there in
          let own = length-rows (λ (w : MoveId). w.0) (move_counts plant) ms is.whole in
          let at : choice + sum (take k (move_counts plant)) + n ≡ length front + (sum (take k (move_counts plant)) + n) = omega (arith, long) in
          (λ i. truth_in (whole_is i) (at i))
          ∙ get_or-append-add front (row ++ back) (sum (take k (move_counts plant)) + n) false
          ∙ get_or_append_left row back false (sum (take k (move_counts plant)) + n) (omega (arith, among, own, below))
          ∙ row_at (λ (w : MoveId). w.0) (move_counts plant) ms k n (record { 0 = 0 }) is.whole there below

  -- the first row is taken to what stands in front
  shifted : (front row more back : List Bool) → whole ≡ front ++ ((row ++ more) ++ back) → (whole ≡ front ++ (row ++ (more ++ back))) × (whole ≡ (front ++ row) ++ (more ++ back))
  shifted front row more back is =
      let one : whole ≡ front ++ (row ++ (more ++ back)) = is ∙ ap (λ (x : List Bool). front ++ x) (append_assoc row more back) in
      (one, one ∙ sym (append_assoc front row (more ++ back)))

  on_encoded : (fs : List Further) (first choice : ℕ) (values_front values_back moves_front moves_back : List Bool) → AreWhole plant fs
      → whole ≡ values_front ++ (after_rows plant fs ++ values_back) → length values_front ≡ first + sum (sizes plant)
      → whole ≡ moves_front ++ (moves_rows plant fs ++ moves_back) → length moves_front ≡ choice → EncodeOn plant (truth_in whole) first choice fs
  on_encoded [] first choice vf vb mf mb are values_are long moves_are far = tt
  on_encoded (f ∷ fs) first choice vf vb mf mb are values_are long moves_are far =
      let v_row : List Bool = value_rows (sizes plant) f.after in
      let m_row : List Bool = move_rows (move_counts plant) f.moves in
      let vs = shifted vf v_row (after_rows plant fs) vb values_are in
      let ms = shifted mf m_row (moves_rows plant fs) mb moves_are in
      let v_long = length-rows (λ (w : ValId). w.0) (sizes plant) f.after are.0.whole in
      let m_long = length-rows (λ (w : MoveId). w.0) (move_counts plant) f.moves are.1.whole in
      let v_both = length-append vf v_row in
      let m_both = length-append mf m_row in (
        value_encoded vf (after_rows plant fs ++ vb) (first + sum (sizes plant)) f.after are.0 vs.0 long,
        moves_encoded mf (moves_rows plant fs ++ mb) choice f.moves are.1 ms.0 far,
        on_encoded fs (first + sum (sizes plant)) (choice + sum (move_counts plant)) (vf ++ v_row) vb (mf ++ m_row) mb are.2 vs.1 (omega (arith, long, v_long, v_both)) ms.1
            (omega (arith, far, m_long, m_both)),
      )

-- how long the rows are
after_long : (plant : Plant) (first : ℕ) (fs : List Further) → AreWhole plant fs → first + length (after_rows plant fs) ≡ past_copies plant first (length fs)
after_long plant first [] are = omega arith
after_long plant first (f ∷ fs) are =
    let rest = after_long plant (first + sum (sizes plant)) fs are.2 in
    let one = length-rows (λ (w : ValId). w.0) (sizes plant) f.after are.0.whole in
    let both = length-append (value_rows (sizes plant) f.after) (after_rows plant fs) in
    omega (arith, rest, one, both)

moves_long : (plant : Plant) (choice : ℕ) (fs : List Further) → AreWhole plant fs → choice + length (moves_rows plant fs) ≡ past_moves plant choice (length fs)
moves_long plant choice [] are = omega arith
moves_long plant choice (f ∷ fs) are =
    let rest = moves_long plant (choice + sum (move_counts plant)) fs are.2 in
    let one = length-rows (λ (w : MoveId). w.0) (move_counts plant) f.moves are.1.whole in
    let both = length-append (move_rows (move_counts plant) f.moves) (moves_rows plant fs) in
    omega (arith, rest, one, both)

module _ (plant : Plant) (h : is_well_formed plant ≡ true) (start : List ValId) (on : List Further) (at_start : IsAssignment (sizes plant) start) (are : AreWhole plant on) where
  abbrev values : List Bool
  values = encoded_window plant start on

  abbrev first_row : List Bool
  first_row = value_rows (sizes plant) start

  first_long : length first_row ≡ sum (sizes plant)
  first_long = length-rows (λ (w : ValId). w.0) (sizes plant) start at_start.whole

  front_long : length (first_row ++ after_rows plant on) ≡ window_choice plant (length on)
  front_long =
      let one = first_long in
      let rest = after_long plant (0 + sum (sizes plant)) on are in
      let both = length-append first_row (after_rows plant on) in
      omega (arith, one, rest, both)

  values_long : length values ≡ window_bools plant (length on)
  values_long =
      let front = front_long in
      let rest = moves_long plant (window_choice plant (length on)) on are in
      let one = length-append first_row (after_rows plant on) in
      let back = length-append (after_rows plant on) (moves_rows plant on) in
      let both = length-append first_row (after_rows plant on ++ moves_rows plant on) in
      omega (arith, front, rest, one, back, both)

  now : Encode (truth_in values) (booleans_from plant 0) start
  now = value_encoded plant values [] (after_rows plant on ++ moves_rows plant on) 0 start at_start refl refl

  further : EncodeOn plant (truth_in values) 0 (window_choice plant (length on)) on
  further =
      let one = first_long in
      on_encoded plant values on 0 (window_choice plant (length on)) first_row (moves_rows plant on) (first_row ++ after_rows plant on) [] are refl (omega (arith, one))
      (sym (append_assoc first_row (after_rows plant on) (moves_rows plant on)) ∙ ap (λ (x : List Bool). (first_row ++ after_rows plant on) ++ x) (sym (append-nil (moves_rows plant on)))) front_long

  pub window_has_a_model : (s : WindowValue) → IsWindowOf plant (length on) s → is_feasible plant start ≡ true → LeadOn plant start on → IsModelOfWindow plant s start on values
  window_has_a_model s is feasible lead =
      record {
        whole = values_long;
        satisfied = all_present_hold values s.set.slots
            (λ n c at. all_member (clause_holds values) (window_clauses plant (length on)) c holds
            (among_numbered s.set.slots is.ids (window_clauses plant (length on)) is.numbered.each n c at (is.numbered.all n (ap (λ o. is_some o) at))));
        now = now;
        further = further;
        choices = choices_joined (truth_in values) plant h 0 (window_choice plant (length on)) on further;
      }
    where
      holds : list_all (clause_holds values) (window_clauses plant (length on)) ≡ true
      holds = window_satisfied (truth_in values) plant h start on feasible lead now further

-- what was made of a well-formed plant's window is its system

pub window_over : (plant : Plant) → is_well_formed plant ≡ true → (steps bools : ℕ) → bools ≡ window_bools plant steps → (cs : List (List Lit)) → cs ≡ window_clauses plant steps → All (IsOver bools) cs
window_over plant h steps bools same cs is =
    subst (λ (n : ℕ). All (IsOver n) cs) (sym same)
    (subst (λ (ds : List (List Lit)). All (IsOver (window_bools plant steps)) ds) (sym is)
    (All-of_test (is_clause (window_bools plant steps)) (IsOver (window_bools plant steps)) (window_clauses plant steps) (λ c e. record { clause = e }) (window_are plant h steps)))

-- how many moves there are in all steps
pub moves_sum : (plant : Plant) (choice steps : ℕ) → choice + sum (counts_of plant steps) ≡ past_moves plant choice steps
moves_sum plant choice zero = omega arith
moves_sum plant choice (suc n) =
    let rest = moves_sum plant (choice + sum (move_counts plant)) n in
    let both : sum (move_counts plant ++ counts_of plant n) ≡ sum (move_counts plant) + sum (counts_of plant n) = sum_by-append (λ (x : ℕ). x) (move_counts plant) (counts_of plant n) in
    omega (arith, rest, both)

-- and how many booleans
pub window_total : (plant : Plant) (steps first n : ℕ) → first ≡ window_choice plant steps → n ≡ sum (counts_of plant steps) → first + n ≡ window_bools plant steps
window_total plant steps first n at is = let all = moves_sum plant (window_choice plant steps) steps in omega (arith, at, is, all)

few_moves : (plant : Plant) → is_well_formed plant ≡ true → (steps : ℕ) → sum (counts_of plant steps) ≤ 16384 * steps
few_moves plant h zero = omega arith
few_moves plant h (suc n) =
    let rest = few_moves plant h n in
    let few = few_choices plant h in
    let same = mapped_sum plant.types plant.parts in
    let both : sum (move_counts plant ++ counts_of plant n) ≡ sum (move_counts plant) + sum (counts_of plant n) = sum_by-append (λ (x : ℕ). x) (move_counts plant) (counts_of plant n) in
    omega (arith, rest, few, same, both)

-- its booleans have numbers
pub window_fits : (plant : Plant) → is_well_formed plant ≡ true → (steps first : ℕ) → steps ≤ 4 → first ≡ window_choice plant steps → (counts : List ℕ) → counts ≡ counts_of plant steps → first + sum counts < 2 ^ 32
window_fits plant h steps first few at counts are =
    let values = few_past plant h 0 (suc steps) in
    let moves = few_moves plant h steps in
    let same = ap (λ (ns : List ℕ). sum ns) are in
    omega (arith, few, at, values, moves, same)

pub window_of : (plant : Plant) (steps : ℕ) (s : WindowValue) (bools : ℕ) → s.set.bools ≡ bools → bools ≡ window_bools plant steps → (cs : List (List Lit)) → cs ≡ window_clauses plant steps
    → (ids : List ClauseId) → AreNumbered cs s.set.slots ids → s.copies ≡ copies_from plant 0 (suc steps) → s.choices ≡ window_choices plant steps → IsWindowOf plant steps s
window_of plant steps s bools same many cs are ids numbered copies choices =
    record {
      bools = same ∙ many;
      ids = ids;
      numbered = subst (λ (ds : List (List Lit)). AreNumbered ds s.set.slots ids) are numbered;
      copies = copies;
      choices = choices;
    }
