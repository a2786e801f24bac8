-- Truth values that make the clauses of a window true encode steps, one behind the other, and what encodes them makes the clauses true.
use Rattle.std.proofs.Common.{◌≡◌, ◌+◌, ◌<◌, ℕ, zero, suc, Bool, true, nat_eq, ◌&&◌, List, [], ◌∷◌, ◌++◌, length, take, slice_index_or, refl, sym, subst, ap, ◌∙◌, arith}
use Rattle.std.specs.List.{sum}
use Rattle.std.proofs.lemmas.Bool.{and_parts, and_from}
use Rattle.std.proofs.lemmas.List.Sums.{sum_by-cons}
use Rattle.lv_base.specs.declared.ids.ValId.{ValId}
use Rattle.lv_base.specs.declared.ids.MoveId.{MoveId}
use Rattle.lv_model.specs.declared.plant.Plant.{Plant}
use Rattle.lv_model.specs.Lists.{sizes, move_counts}
use Rattle.lv_model.specs.WellFormed.{is_well_formed}
use Rattle.lv_model.specs.Meaning.{is_feasible, parts_step, is_step}
use Rattle.lv_compile.specs.Booleans.{booleans_from}
use Rattle.lv_compile.specs.Laws.{are_true, Encode, EncodeMoves, move_number}
use Rattle.lv_compile.specs.ModelClauses.{copy_clauses, choices_clauses}
use Rattle.lv_compile.specs.Windows.{window_choice, copies_clauses, steps_clauses, raw_window, window_clauses}
use Rattle.lv_compile.specs.WindowLaws.{Further, all_moves, counts_of, IsFurther, LeadOn, EncodeOn, IsEncodedWindow}
use Rattle.lv_compile.proofs.FormulaLemmas.{joined_true}
use Rattle.lv_compile.proofs.CleaningLemmas.{cleaned_true}
use Rattle.lv_compile.proofs.CopyLemmas.{copy_exact}
use Rattle.lv_compile.proofs.StepLemmas.{moves_exact}
use Rattle.lv_compile.proofs.DecodeLemmas.{both_parts, Row, Moves, moves_of, typed, copy_values}

module _ (truth : ℕ → Bool) where
  encode_tail : (first n : ℕ) (ns : List ℕ) (m : MoveId) (ms : List MoveId) → EncodeMoves truth first (n ∷ ns) (m ∷ ms) → EncodeMoves truth (first + n) ns ms
  encode_tail first n ns m ms code =
      let long : length (m ∷ ms) ≡ length (n ∷ ns) = code.each in
      record {
        each = omega (arith, long);
        in_range = λ k inside. code.in_range (suc k) (omega (arith, inside));
        values = λ k j inside below.
            let more = sum_by-cons (λ (x : ℕ). x) n (take k ns) in
            let e : first + n + sum (take k ns) + j ≡ first + sum (n ∷ take k ns) + j = omega (arith, more) in
            ap truth e ∙ code.values (suc k) j (omega (arith, inside)) below;
      }

  encode_cons : (first n : ℕ) (ns : List ℕ) (m : MoveId) (ms : List MoveId) → m.0 < n → ((j : ℕ) → j < n → truth (first + j) ≡ nat_eq m.0 j) → EncodeMoves truth (first + n) ns ms
      → EncodeMoves truth first (n ∷ ns) (m ∷ ms)
  encode_cons first n ns m ms here are rest = record { each = let e = rest.each in omega (arith, e); in_range = ranges; values = truths }
    where
      ranges : (k : ℕ) → k < length (n ∷ ns) → move_number (m ∷ ms) k < slice_index_or (n ∷ ns) k 0
      ranges zero inside = here
      ranges (suc k) inside = rest.in_range k (omega (arith, inside))

      truths : (k j : ℕ) → k < length (n ∷ ns) → j < slice_index_or (n ∷ ns) k 0 → truth (first + sum (take k (n ∷ ns)) + j) ≡ nat_eq (move_number (m ∷ ms) k) j
      truths zero j inside below = let e : first + 0 + j ≡ first + j = omega arith in ap truth e ∙ are j below
      truths (suc k) j inside below =
          let more = sum_by-cons (λ (x : ℕ). x) n (take k ns) in
          let e : first + sum (n ∷ take k ns) + j ≡ first + n + sum (take k ns) + j = omega (arith, more) in
          ap truth e ∙ rest.values k j (omega (arith, inside)) below

  -- moves that are encoded one behind the other
  pub encode_joined : (first : ℕ) (ns ks : List ℕ) (ms os : List MoveId) → EncodeMoves truth first ns ms → EncodeMoves truth (first + sum ns) ks os → EncodeMoves truth first (ns ++ ks) (ms ++ os)
  encode_joined first [] ks [] os code rest = let at : first + 0 ≡ first = omega arith in subst (λ (k : ℕ). EncodeMoves truth k ks os) at rest
  encode_joined first [] ks (m ∷ ms) os code rest = let long : length (m ∷ ms) ≡ 0 = code.each in absurd (omega (arith, long))
  encode_joined first (n ∷ ns) ks [] os code rest = let long : 0 ≡ length (n ∷ ns) = code.each in absurd (omega (arith, long))
  encode_joined first (n ∷ ns) ks (m ∷ ms) os code rest =
      let more = sum_by-cons (λ (x : ℕ). x) n ns in
      let at : first + sum (n ∷ ns) ≡ first + n + sum ns = omega (arith, more) in
      encode_cons first n (ns ++ ks) m (ms ++ os) (code.in_range 0 (omega arith))
      (λ j below. let e : first + j ≡ first + 0 + j = omega arith in ap truth e ∙ code.values 0 j (omega arith) below)
      (encode_joined (first + n) ns ks ms os (encode_tail first n ns m ms code) (subst (λ (k : ℕ). EncodeMoves truth k ks os) at rest))

  module _ (plant : Plant) (h : is_well_formed plant ≡ true) where
    -- steps from an assignment, which are encoded
    record On (first choice n : ℕ) (a : List ValId) : Type 0 where
      pub on : List Further
      pub many : length on ≡ n
      pub lead : LeadOn plant a on
      pub further : EncodeOn plant truth first choice on
      pub choices : EncodeMoves truth choice (counts_of plant n) (all_moves on)

    -- one step from an assignment, and what is left of the clauses
    record One (first choice n : ℕ) (a : List ValId) : Type 0 where
      pub further : Further
      pub is : IsFurther plant a further
      pub next : Encode truth (booleans_from plant (first + sum (sizes plant))) further.after
      pub code : EncodeMoves truth choice (move_counts plant) further.moves
      pub feasible : is_feasible plant further.after ≡ true
      pub copies : are_true truth (copies_clauses plant (first + sum (sizes plant) + sum (sizes plant)) n) ≡ true
      pub steps : are_true truth (steps_clauses plant (first + sum (sizes plant)) (choice + sum (move_counts plant)) n) ≡ true

    one_on : (first choice n : ℕ) (a : List ValId) → Encode truth (booleans_from plant first) a → is_feasible plant a ≡ true
        → are_true truth (copies_clauses plant (first + sum (sizes plant)) (suc n)) ≡ true → are_true truth (steps_clauses plant first choice (suc n)) ≡ true → One first choice n a
    one_on first choice n a now feasible copies steps =
        record {
          further = record { moves = moves.moves; after = row.values };
          is = record { whole = row.long; step = step };
          next = next;
          code = moves.code;
          feasible = feasible_next;
          copies = two.1;
          steps = own.1;
        }
      where
        behind : ℕ
        behind = first + sum (sizes plant)

        two : (are_true truth (copy_clauses (booleans_from plant behind) plant) ≡ true) × (are_true truth (copies_clauses plant (behind + sum (sizes plant)) n) ≡ true)
        two = both_parts truth (copy_clauses (booleans_from plant behind) plant) (copies_clauses plant (behind + sum (sizes plant)) n) copies

        own : (are_true truth (choices_clauses (booleans_from plant first) (booleans_from plant behind) plant.types choice plant.parts) ≡ true)
            × (are_true truth (steps_clauses plant behind (choice + sum (move_counts plant)) n) ≡ true)
        own =
            both_parts truth (choices_clauses (booleans_from plant first) (booleans_from plant behind) plant.types choice plant.parts)
            (steps_clauses plant behind (choice + sum (move_counts plant)) n) steps

        row : Row truth behind (sizes plant)
        row = copy_values truth (booleans_from plant behind) plant two.0

        next : Encode truth (booleans_from plant behind) row.values
        next = record { in_range = row.in_range; values = row.are }

        moves : Moves truth plant.types choice plant.parts
        moves = moves_of truth (booleans_from plant first) (booleans_from plant behind) plant.types choice plant.parts (typed truth plant h) own.0

        feasible_next : is_feasible plant row.values ≡ true
        feasible_next = sym (copy_exact plant h (booleans_from plant behind) refl truth row.values next) ∙ two.0

        step : is_step plant a row.values moves.moves ≡ true
        step =
            and_from (is_feasible plant a) (is_feasible plant row.values && parts_step plant.types a row.values plant.parts moves.moves) feasible
            (and_from (is_feasible plant row.values) (parts_step plant.types a row.values plant.parts moves.moves) feasible_next
            (sym (moves_exact plant h truth a row.values first behind now next choice moves.moves moves.code) ∙ own.0))

    -- it and the steps from where it leads
    joined_on : (first choice n : ℕ) (a : List ValId) (one : One first choice n a) → On (first + sum (sizes plant)) (choice + sum (move_counts plant)) n one.further.after → On first choice (suc n) a
    joined_on first choice n a one rest =
        record {
          on = one.further ∷ rest.on;
          many = let e = rest.many in omega (arith, e);
          lead = (one.is, rest.lead);
          further = (one.next, one.code, rest.further);
          choices = encode_joined choice (move_counts plant) (counts_of plant n) one.further.moves (all_moves rest.on) one.code rest.choices;
        }

    steps_on : (first choice n : ℕ) (a : List ValId) → Encode truth (booleans_from plant first) a → is_feasible plant a ≡ true → are_true truth (copies_clauses plant (first + sum (sizes plant)) n) ≡ true
        → are_true truth (steps_clauses plant first choice n) ≡ true → On first choice n a
    steps_on first choice zero a now feasible copies steps =
        record {
          on = [];
          many = refl;
          lead = tt;
          further = tt;
          choices = record { each = refl; in_range = λ k inside. absurd (omega (arith, inside)); values = λ k j inside below. absurd (omega (arith, inside)) };
        }
    steps_on first choice (suc n) a now feasible copies steps =
        let one : One first choice n a = one_on first choice n a now feasible copies steps in
        joined_on first choice n a one
        (steps_on (first + sum (sizes plant)) (choice + sum (move_counts plant)) n one.further.after one.next one.feasible one.copies one.steps)

    pub window_decoded : (steps : ℕ) → are_true truth (window_clauses plant steps) ≡ true → IsEncodedWindow plant steps truth
    window_decoded steps all =
        record { start = row.values; on = rest.on; whole = row.long; many = rest.many; lead = rest.lead; now = now; further = rest.further; choices = rest.choices }
      where
        raw : are_true truth (raw_window plant steps) ≡ true
        raw = sym (cleaned_true truth (raw_window plant steps)) ∙ all

        parts : (are_true truth (copies_clauses plant 0 (suc steps)) ≡ true) × (are_true truth (steps_clauses plant 0 (window_choice plant steps) steps) ≡ true)
        parts = both_parts truth (copies_clauses plant 0 (suc steps)) (steps_clauses plant 0 (window_choice plant steps) steps) raw

        copies : (are_true truth (copy_clauses (booleans_from plant 0) plant) ≡ true) × (are_true truth (copies_clauses plant (0 + sum (sizes plant)) steps) ≡ true)
        copies = both_parts truth (copy_clauses (booleans_from plant 0) plant) (copies_clauses plant (0 + sum (sizes plant)) steps) parts.0

        row : Row truth 0 (sizes plant)
        row = copy_values truth (booleans_from plant 0) plant copies.0

        now : Encode truth (booleans_from plant 0) row.values
        now = record { in_range = row.in_range; values = row.are }

        rest : On 0 (window_choice plant steps) steps row.values
        rest =
            steps_on 0 (window_choice plant steps) steps row.values now
            (sym (copy_exact plant h (booleans_from plant 0) refl truth row.values now) ∙ copies.0) copies.1 parts.1

    -- the moves of steps that are encoded are encoded one behind the other
    pub choices_joined : (first choice : ℕ) (on : List Further) → EncodeOn plant truth first choice on → EncodeMoves truth choice (counts_of plant (length on)) (all_moves on)
    choices_joined first choice [] code = record { each = refl; in_range = λ k inside. absurd (omega (arith, inside)); values = λ k j inside below. absurd (omega (arith, inside)) }
    choices_joined first choice (f ∷ fs) code =
        encode_joined choice (move_counts plant) (counts_of plant (length fs)) f.moves (all_moves fs) code.1
        (choices_joined (first + sum (sizes plant)) (choice + sum (move_counts plant)) fs code.2)

    -- what encodes steps makes their clauses true
    on_true : (first choice : ℕ) (a : List ValId) (on : List Further) → Encode truth (booleans_from plant first) a → LeadOn plant a on → EncodeOn plant truth first choice on
        → (are_true truth (copies_clauses plant (first + sum (sizes plant)) (length on)) ≡ true) × (are_true truth (steps_clauses plant first choice (length on)) ≡ true)
    on_true first choice a [] now lead code = (refl, refl)
    on_true first choice a (f ∷ fs) now lead code =
        let behind : ℕ = first + sum (sizes plant) in
        let next : Encode truth (booleans_from plant behind) f.after = code.0 in
        let two = and_parts (is_feasible plant a) (is_feasible plant f.after && parts_step plant.types a f.after plant.parts f.moves) lead.0.step in
        let three = and_parts (is_feasible plant f.after) (parts_step plant.types a f.after plant.parts f.moves) two.1 in
        let rest = on_true behind (choice + sum (move_counts plant)) f.after fs next lead.1 code.2 in
        let copy : are_true truth (copy_clauses (booleans_from plant behind) plant) ≡ true = copy_exact plant h (booleans_from plant behind) refl truth f.after next ∙ three.0 in
        let moves : are_true truth (choices_clauses (booleans_from plant first) (booleans_from plant behind) plant.types choice plant.parts) ≡ true =
        moves_exact plant h truth a f.after first behind now next choice f.moves code.1 ∙ three.1
        in (
          joined_true truth (copy_clauses (booleans_from plant behind) plant) (copies_clauses plant (behind + sum (sizes plant)) (length fs))
              ∙ and_from (are_true truth (copy_clauses (booleans_from plant behind) plant)) (are_true truth (copies_clauses plant (behind + sum (sizes plant)) (length fs))) copy rest.0,
          joined_true truth (choices_clauses (booleans_from plant first) (booleans_from plant behind) plant.types choice plant.parts) (steps_clauses plant behind (choice + sum (move_counts plant)) (length fs))
              ∙ and_from (are_true truth (choices_clauses (booleans_from plant first) (booleans_from plant behind) plant.types choice plant.parts))
              (are_true truth (steps_clauses plant behind (choice + sum (move_counts plant)) (length fs))) moves rest.1,
        )

    pub window_satisfied : (start : List ValId) (on : List Further) → is_feasible plant start ≡ true → LeadOn plant start on → Encode truth (booleans_from plant 0) start
        → EncodeOn plant truth 0 (window_choice plant (length on)) on → are_true truth (window_clauses plant (length on)) ≡ true
    window_satisfied start on feasible lead now code =
        let steps : ℕ = length on in
        let rest = on_true 0 (window_choice plant steps) start on now lead code in
        let copy : are_true truth (copy_clauses (booleans_from plant 0) plant) ≡ true = copy_exact plant h (booleans_from plant 0) refl truth start now ∙ feasible in
        cleaned_true truth (raw_window plant steps)
        ∙ joined_true truth (copies_clauses plant 0 (suc steps)) (steps_clauses plant 0 (window_choice plant steps) steps)
        ∙ and_from (are_true truth (copies_clauses plant 0 (suc steps))) (are_true truth (steps_clauses plant 0 (window_choice plant steps) steps))
        (joined_true truth (copy_clauses (booleans_from plant 0) plant) (copies_clauses plant (0 + sum (sizes plant)) steps)
        ∙ and_from (are_true truth (copy_clauses (booleans_from plant 0) plant)) (are_true truth (copies_clauses plant (0 + sum (sizes plant)) steps)) copy rest.0) rest.1
