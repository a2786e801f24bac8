-- The system of a plant: its clauses are true exactly where the plant's are.
use Rattle.std.proofs.Common.{◌≡◌, ◌+◌, ◌<◌, ◌≤◌, ◌^◌, ℕ, Bool, true, List, length, is_some, All, sym, ap, subst, ◌∙◌, arith}
use Rattle.std.specs.List.{sum, list_all}
use Rattle.lv_base.specs.declared.limits.TheConstants.{MODEL_CLAUSES}
use Rattle.lv_base.specs.declared.ids.Lit.{Lit}
use Rattle.lv_base.specs.declared.ids.ValId.{ValId}
use Rattle.lv_base.specs.declared.ids.MoveId.{MoveId}
use Rattle.lv_base.specs.declared.ids.ClauseId.{ClauseId}
use Rattle.lv_clauses.specs.Literals.{clause_holds, is_clause}
use Rattle.lv_clauses.specs.ClauseMap.{ClauseMap, satisfies}
use Rattle.lv_clauses.proofs.LiteralLemmas.{all_member}
use Rattle.lv_model.specs.declared.plant.Plant.{Plant}
use Rattle.lv_model.specs.Lists.{move_counts}
use Rattle.lv_model.specs.WellFormed.{is_well_formed}
use Rattle.lv_model.proofs.Reading.{All-of_test}
use Rattle.lv_compile.specs.Booleans.{booleans_now, booleans_next, first_choice, bool_count}
use Rattle.lv_compile.specs.Laws.{IsEncodedStep}
use Rattle.lv_compile.specs.ModelClauses.{model_clauses}
use Rattle.lv_compile.proofs.SumLemmas.{mapped_sum, few_values, few_choices}
use Rattle.lv_compile.proofs.ApartLemmas.{are_clauses}
use Rattle.lv_compile.proofs.DecodeLemmas.{decoded}
use Rattle.lv_compile.proofs.StepLemmas.{step_exact}
use Rattle.lv_compile.proofs.PlantBoundLemmas.{few_clauses, count_within}
use Rattle.lv_system.specs.Numbering.{AreNumbered, IsOver}
use Rattle.lv_system.specs.System.{SystemValue, IsSystemOf, IsKept}
use Rattle.lv_system.specs.Encoding.{truth_in, encoded}
use Rattle.lv_system.specs.Laws.{IsWholeStep, IsModelOf}
use Rattle.lv_system.proofs.EncodingLemmas.{length-encoded, encodes_now, encodes_next, encodes_moves}
use Rattle.lv_system.proofs.NumberingLemmas.{among_numbered, numbered_hold, all_present_hold, length-numbered, all_present}

pub model_is_a_step : (plant : Plant) → is_well_formed plant ≡ true → (s : SystemValue) → IsSystemOf plant s → (values : List Bool) → satisfies values s.set.slots ≡ true
    → IsEncodedStep plant (truth_in values)
model_is_a_step plant h s is values all = decoded (truth_in values) plant h (numbered_hold values s.set.slots all s.ids (model_clauses plant) is.numbered.each)

pub step_has_a_model : (plant : Plant) → is_well_formed plant ≡ true → (s : SystemValue) → IsSystemOf plant s → (a b : List ValId) (ms : List MoveId) → IsWholeStep plant a b ms
    → IsModelOf plant s a b ms (encoded plant a b ms)
step_has_a_model plant h s is a b ms step =
    record {
      whole = length-encoded plant a b ms step.before step.after step.moves;
      satisfied = all_present_hold values s.set.slots (λ n c at. all_member (clause_holds values) (model_clauses plant) c holds (is.among n c at));
      now = encodes_now plant a b ms step.before step.after step.moves;
      next = encodes_next plant a b ms step.before step.after step.moves;
      choice = encodes_moves plant a b ms step.before step.after step.moves;
    }
  where
    values : List Bool
    values = encoded plant a b ms

    holds : list_all (clause_holds values) (model_clauses plant) ≡ true
    holds =
        step_exact plant h (truth_in values) a b (encodes_now plant a b ms step.before step.after step.moves) (encodes_next plant a b ms step.before step.after step.moves) ms
        (encodes_moves plant a b ms step.before step.after step.moves)
        ∙ step.step

-- what was made of a well-formed plant's clauses is its system

pub all_over : (plant : Plant) → is_well_formed plant ≡ true → (bools : ℕ) → bools ≡ bool_count plant → (cs : List (List Lit)) → cs ≡ model_clauses plant → All (IsOver bools) cs
all_over plant h bools same cs are =
    subst (λ (n : ℕ). All (IsOver n) cs) (sym same)
    (subst (λ (ds : List (List Lit)). All (IsOver (bool_count plant)) ds) (sym are)
    (All-of_test (is_clause (bool_count plant)) (IsOver (bool_count plant)) (model_clauses plant) (λ c e. record { clause = e }) (are_clauses plant h)))

pub system_of : (plant : Plant) (s : SystemValue) (bools : ℕ) → s.set.bools ≡ bools → bools ≡ bool_count plant → (cs : List (List Lit)) → cs ≡ model_clauses plant → AreNumbered cs s.set.slots s.ids
    → s.before ≡ booleans_now plant → s.after ≡ booleans_next plant → s.first_choice ≡ first_choice plant → s.counts ≡ move_counts plant → IsSystemOf plant s
system_of plant s bools same many cs are numbered before after first counts =
    record {
      bools = same ∙ many;
      total = length-numbered s.set.slots s.ids (model_clauses plant) here.each;
      numbered = here;
      among = λ n c at. among_numbered s.set.slots s.ids (model_clauses plant) here.each n c at (here.all n (ap (λ o. is_some o) at));
      before = before;
      after = after;
      first_choice = first;
      counts = counts;
    }
  where
    here : AreNumbered (model_clauses plant) s.set.slots s.ids
    here = subst (λ (ds : List (List Lit)). AreNumbered ds s.set.slots s.ids) are numbered

pub kept_of : (plant : Plant) → is_well_formed plant ≡ true → (set : ClauseMap) (ids : List ClauseId) (cs : List (List Lit)) → cs ≡ model_clauses plant → AreNumbered cs set.slots ids → IsKept set.slots ids
kept_of plant h set ids cs are numbered =
    let long = length-numbered set.slots ids cs numbered.each in
    let same = ap length are in
    let few = within plant h in
    record { few = omega (arith, long, same, few); present = all_present set.slots ids cs numbered.each }
  where
    within : (p : Plant) → is_well_formed p ≡ true → length (model_clauses p) ≤ MODEL_CLAUSES
    within p g = let counted = few_clauses p g in let limit = count_within p g in omega (arith, counted, limit)

-- and its booleans have numbers
pub choices_fit : (plant : Plant) → is_well_formed plant ≡ true → (first : ℕ) → first ≡ first_choice plant → (counts : List ℕ) → counts ≡ move_counts plant → first + sum counts < 2 ^ 32
choices_fit plant h first at counts are =
    let values = few_values plant h in
    let choices = few_choices plant h in
    let sum_is = mapped_sum plant.types plant.parts in
    let same = ap (λ (ns : List ℕ). sum ns) are in
    omega (arith, at, values, choices, sum_is, same)

pub bools_are : (plant : Plant) (first : ℕ) → first ≡ first_choice plant → (counts : List ℕ) → counts ≡ move_counts plant → (n : ℕ) → n ≡ sum counts → first + n ≡ bool_count plant
bools_are plant first at counts are n e = let same = ap (λ (ns : List ℕ). sum ns) are in omega (arith, at, same, e)
