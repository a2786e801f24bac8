-- The clauses of a window: they are clauses over its booleans, and those of one step are the plant's.
use Rattle.std.proofs.Common.{◌≡◌, ◌+◌, ◌-◌, ◌*◌, ◌≤◌, ◌<◌, ℕ, zero, suc, true, [], ◌++◌, append-nil, append_assoc, refl, sym, ap, ap₂, ◌∙◌, arith}
use Rattle.std.specs.List.{sum, list_all}
use Rattle.lv_clauses.specs.Literals.{is_clause}
use Rattle.lv_model.specs.declared.plant.Plant.{Plant}
use Rattle.lv_model.specs.Lists.{sizes, move_counts}
use Rattle.lv_model.specs.WellFormed.{is_well_formed}
use Rattle.lv_compile.specs.Booleans.{Booleans, booleans_from, booleans_now, booleans_next, first_choice}
use Rattle.lv_compile.specs.FormulaClauses.{Clauses}
use Rattle.lv_compile.specs.Cleaning.{cleaned}
use Rattle.lv_compile.specs.ModelClauses.{copy_clauses, choices_clauses, model_clauses}
use Rattle.lv_compile.specs.Windows.{past_copies, past_moves, window_choice, window_bools, copies_clauses, steps_clauses, raw_window, window_clauses}
use Rattle.lv_compile.proofs.SumLemmas.{mapped_sum, few_values}
use Rattle.lv_compile.proofs.SpeakingLemmas.{system_speaks, parts_hold, parts_speak}
use Rattle.lv_compile.proofs.InRangeLemmas.{all_in, joined_in, copy_in, choices_in}
use Rattle.lv_compile.proofs.ApartLemmas.{cleaned_are}

-- of one step they are the plant's
pub one_step : (plant : Plant) → window_clauses plant 1 ≡ model_clauses plant
one_step plant = ap cleaned (ap₂ (λ (x y : Clauses). x ++ y) front back)
  where
    at : 0 + sum (sizes plant) ≡ sum (sizes plant)
    at = omega arith

    front : copy_clauses (booleans_from plant 0) plant ++ (copy_clauses (booleans_from plant (0 + sum (sizes plant))) plant ++ []) ≡ copy_clauses (booleans_now plant) plant ++ copy_clauses (booleans_next plant) plant
    front =
        ap (λ (x : Clauses). copy_clauses (booleans_now plant) plant ++ x)
        (append-nil (copy_clauses (booleans_from plant (0 + sum (sizes plant))) plant) ∙ ap (λ (k : ℕ). copy_clauses (booleans_from plant k) plant) at)

    back : choices_clauses (booleans_from plant 0) (booleans_from plant (0 + sum (sizes plant))) plant.types (0 + sum (sizes plant) + sum (sizes plant)) plant.parts ++ []
        ≡ choices_clauses (booleans_now plant) (booleans_next plant) plant.types (first_choice plant) plant.parts
    back =
        append-nil (choices_clauses (booleans_from plant 0) (booleans_from plant (0 + sum (sizes plant))) plant.types (0 + sum (sizes plant) + sum (sizes plant)) plant.parts)
        ∙ ap (λ (k : ℕ). choices_clauses (booleans_now plant) (booleans_from plant k) plant.types (k + sum (sizes plant)) plant.parts) at

-- copies and moves only go on
pub past_on : (plant : Plant) (first n : ℕ) → first ≤ past_copies plant first n
past_on plant first zero = omega arith
past_on plant first (suc n) = let rest = past_on plant (first + sum (sizes plant)) n in omega (arith, rest)

pub moves_on : (plant : Plant) (choice n : ℕ) → choice ≤ past_moves plant choice n
moves_on plant choice zero = omega arith
moves_on plant choice (suc n) = let rest = moves_on plant (choice + sum (move_counts plant)) n in omega (arith, rest)

-- and there are few of them
pub few_past : (plant : Plant) → is_well_formed plant ≡ true → (first n : ℕ) → past_copies plant first n ≤ first + 262144 * n
few_past plant h first zero = omega arith
few_past plant h first (suc n) =
    let rest = few_past plant h (first + sum (sizes plant)) n in
    let few = few_values plant h in
    omega (arith, rest, few)

module _ (plant : Plant) (h : is_well_formed plant ≡ true) (bools : ℕ) where
  copies_in : (first n : ℕ) → past_copies plant first n ≤ bools → all_in bools (copies_clauses plant first n) ≡ true
  copies_in first zero within = refl
  copies_in first (suc n) within =
      let b : Booleans = booleans_from plant first in
      let on = past_on plant (first + sum (sizes plant)) n in
      let fit : first + sum (sizes plant) ≤ bools = omega (arith, on, within) in
      joined_in bools (copy_clauses b plant) (copies_clauses plant (first + sum (sizes plant)) n)
      (copy_in bools b fit plant (parts_hold plant h b refl) (system_speaks plant h b refl)) (copies_in (first + sum (sizes plant)) n within)

  steps_in : (first choice n : ℕ) → past_copies plant (first + sum (sizes plant)) n ≤ bools → past_moves plant choice n ≤ bools → all_in bools (steps_clauses plant first choice n) ≡ true
  steps_in first choice zero within fit = refl
  steps_in first choice (suc n) within fit =
      let a : Booleans = booleans_from plant first in
      let b : Booleans = booleans_from plant (first + sum (sizes plant)) in
      let on = past_on plant (first + sum (sizes plant) + sum (sizes plant)) n in
      let further = moves_on plant (choice + sum (move_counts plant)) n in
      let same = mapped_sum plant.types plant.parts in
      let before : first + sum (sizes plant) ≤ bools = omega (arith, on, within) in
      let after : first + sum (sizes plant) + sum (sizes plant) ≤ bools = omega (arith, on, within) in
      joined_in bools (choices_clauses a b plant.types choice plant.parts) (steps_clauses plant (first + sum (sizes plant)) (choice + sum (move_counts plant)) n)
      (choices_in bools a b before after plant.types choice plant.parts (omega (arith, further, same, fit)) (parts_speak plant h a refl b refl))
      (steps_in (first + sum (sizes plant)) (choice + sum (move_counts plant)) n within fit)

pub window_in : (plant : Plant) → is_well_formed plant ≡ true → (steps : ℕ) → all_in (window_bools plant steps) (raw_window plant steps) ≡ true
window_in plant h steps =
    let on = moves_on plant (window_choice plant steps) steps in
    joined_in (window_bools plant steps) (copies_clauses plant 0 (suc steps)) (steps_clauses plant 0 (window_choice plant steps) steps)
    (copies_in plant h (window_bools plant steps) 0 (suc steps) on) (steps_in plant h (window_bools plant steps) 0 (window_choice plant steps) steps on (omega arith))

pub window_are : (plant : Plant) → is_well_formed plant ≡ true → (steps : ℕ) → list_all (is_clause (window_bools plant steps)) (window_clauses plant steps) ≡ true
window_are plant h steps = cleaned_are (window_bools plant steps) (raw_window plant steps) (window_in plant h steps)

-- one copy more, and one step more, of those that are left
pub copies_more : (plant : Plant) (first next left : ℕ) (out new whole : Clauses) → 0 < left → out ++ copies_clauses plant first left ≡ whole
    → new ≡ out ++ copy_clauses (booleans_from plant first) plant → next ≡ first + sum (sizes plant) → new ++ copies_clauses plant next (left - 1) ≡ whole
copies_more plant first next zero out new whole some so_far added is = absurd (omega (arith, some))
copies_more plant first next (suc n) out new whole some so_far added is =
    let less : suc n - 1 ≡ n = omega arith in
    (λ i. added i ++ copies_clauses plant (is i) (less i))
    ∙ append_assoc out (copy_clauses (booleans_from plant first) plant) (copies_clauses plant (first + sum (sizes plant)) n)
    ∙ so_far

pub steps_more : (plant : Plant) (first next choice later left : ℕ) (out new whole : Clauses) → 0 < left → out ++ steps_clauses plant first choice left ≡ whole
    → new ≡ out ++ choices_clauses (booleans_from plant first) (booleans_from plant (first + sum (sizes plant))) plant.types choice plant.parts
    → next ≡ first + sum (sizes plant) → later ≡ choice + sum (move_counts plant) → new ++ steps_clauses plant next later (left - 1) ≡ whole
steps_more plant first next choice later zero out new whole some so_far added is is_later = absurd (omega (arith, some))
steps_more plant first next choice later (suc n) out new whole some so_far added is is_later =
    let less : suc n - 1 ≡ n = omega arith in
    (λ i. added i ++ steps_clauses plant (is i) (is_later i) (less i))
    ∙ append_assoc out (choices_clauses (booleans_from plant first) (booleans_from plant (first + sum (sizes plant))) plant.types choice plant.parts)
    (steps_clauses plant (first + sum (sizes plant)) (choice + sum (move_counts plant)) n)
    ∙ so_far

pub past_more : (plant : Plant) (first next left whole : ℕ) → 0 < left → past_copies plant first left ≡ whole → next ≡ first + sum (sizes plant) → past_copies plant next (left - 1) ≡ whole
past_more plant first next zero whole some so_far is = absurd (omega (arith, some))
past_more plant first next (suc n) whole some so_far is = let less : suc n - 1 ≡ n = omega arith in (λ i. past_copies plant (is i) (less i)) ∙ so_far

-- none is left
pub copies_done : (plant : Plant) (first left : ℕ) (out whole : Clauses) → left ≤ 0 → out ++ copies_clauses plant first left ≡ whole → out ≡ whole
copies_done plant first zero out whole none so_far = sym (append-nil out) ∙ so_far
copies_done plant first (suc n) out whole none so_far = absurd (omega (arith, none))

pub steps_done : (plant : Plant) (first choice left : ℕ) (out whole : Clauses) → left ≤ 0 → out ++ steps_clauses plant first choice left ≡ whole → out ≡ whole
steps_done plant first choice zero out whole none so_far = sym (append-nil out) ∙ so_far
steps_done plant first choice (suc n) out whole none so_far = absurd (omega (arith, none))

pub past_done : (plant : Plant) (first left whole : ℕ) → left ≤ 0 → past_copies plant first left ≡ whole → first ≡ whole
past_done plant first zero whole none so_far = so_far
past_done plant first (suc n) whole none so_far = absurd (omega (arith, none))
