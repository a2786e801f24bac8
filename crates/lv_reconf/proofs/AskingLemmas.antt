-- What the solver's clauses and the assumptions say together: that there is a nominal step.
use Rattle.std.proofs.Common.{◌≡◌, ◌<◌, ℕ, zero, suc, Bool, true, false, ◌&&◌, nat_lt, List, [], ◌∷◌, ◌++◌, length, map, filter, slice_index_or, Option, Some, None, refl, sym, subst, ap, ◌∙◌, arith}
use Rattle.std.proofs.lemmas.Bool.{and_parts, and_from, lt-ltb, ltb-true}
use Rattle.std.specs.List.{list_all}
use Rattle.std.proofs.lemmas.List.{length-map, append-nil}
use Rattle.lv_base.specs.declared.ids.Lit.{Lit}
use Rattle.lv_base.specs.declared.ids.ValId.{ValId}
use Rattle.lv_base.specs.declared.ids.MoveId.{MoveId}
use Rattle.lv_base.specs.declared.search.Pair.{Pair}
use Rattle.lv_clauses.specs.Literals.{lit_holds}
use Rattle.lv_clauses.specs.ClauseMap.{ClauseMap}
use Rattle.lv_clauses.specs.Marks.{Marks, is_marked}
use Rattle.lv_sat.specs.declared.answer.Answer.{Answer}
use Rattle.lv_sat.specs.declared.answer.Answer.TheVariants.{Sat, Unsat}
use Rattle.lv_sat.specs.Answers.{Answers, IsModel, IsRefutation, IsSatisfied}
use Rattle.lv_sat.specs.lv_clauses.declared.log.Step.{Step}
use Rattle.lv_base.specs.Tree.{number_of}
use Rattle.lv_model.specs.declared.plant.Plant.{Plant}
use Rattle.lv_model.specs.declared.state.State.{State}
use Rattle.lv_model.specs.Lists.{sizes, move_counts, controls}
use Rattle.lv_model.specs.Meaning.{is_step, is_nominal}
use Rattle.lv_meaning.specs.declared.facts.Observation.{Observation}
use Rattle.lv_meaning.specs.Facts.{meets}
use Rattle.lv_meaning.specs.Possible.{value, move_number}
use Rattle.lv_compile.specs.Booleans.{booleans_now}
use Rattle.lv_compile.specs.Laws.{Encode, IsEncodedStep}
use Rattle.lv_compile.specs.Laws as compiled
use Rattle.lv_meaning.specs.PossibleLaws.{are_below}
use Rattle.lv_system.specs.Encoding.{truth_in, encoded}
use Rattle.lv_system.specs.Laws.{IsAssignment, IsFullChoice}
use Rattle.lv_system.proofs.EncodingLemmas.{length-encoded, encodes_now, encodes_next, encodes_moves}
use Rattle.lv_meaning.specs.Recovers.{has_modes, has_controls, some_nominal_step}
use Rattle.lv_meaning.specs.RecoveryLaws.{NominalStep}
use Rattle.lv_meaning.proofs.NominalSteps.{StepFound, step_found, found_step}
use Rattle.lv_reconf.specs.Narrowing.{Encodes, Asks}
use Rattle.lv_asking.specs.Refutation.{Refutes}
use Rattle.lv_reconf.specs.Assuming.{Assumes, MarkedHold, marked_controls}
use Rattle.lv_reconf.specs.Refuting.{RefutesSteps}

abbrev val_number : ValId → ℕ
val_number v = v.0

abbrev mv_number : MoveId → ℕ
mv_number m = m.0

values_back : (a : List ValId) → map value (map val_number a) ≡ a
values_back [] = refl
values_back (v ∷ vs) = ap (λ (xs : List ValId). v ∷ xs) (values_back vs)

moves_back : (ms : List MoveId) → map move_number (map mv_number ms) ≡ ms
moves_back [] = refl
moves_back (m ∷ ms) = ap (λ (xs : List MoveId). m ∷ xs) (moves_back ms)

values_below : (ns : List ℕ) (a : List ValId) → length a ≡ length ns → ((x : ℕ) → x < length ns → number_of a x < slice_index_or ns x 0) → are_below ns (map val_number a) ≡ true
values_below [] [] long each = refl
values_below [] (v ∷ vs) long each = absurd (omega (arith, long))
values_below (n ∷ ns) [] long each = absurd (omega (arith, long))
values_below (n ∷ ns) (v ∷ vs) long each =
    and_from (nat_lt v.0 n) (are_below ns (map val_number vs)) (lt-ltb v.0 n (each 0 (omega arith))) (values_below ns vs (omega (arith, long)) (λ x below. each (suc x) (omega (arith, below))))

moves_below : (ns : List ℕ) (ms : List MoveId) → length ms ≡ length ns → ((x : ℕ) → x < length ns → compiled.move_number ms x < slice_index_or ns x 0) → are_below ns (map mv_number ms) ≡ true
moves_below [] [] long each = refl
moves_below [] (v ∷ vs) long each = absurd (omega (arith, long))
moves_below (n ∷ ns) [] long each = absurd (omega (arith, long))
moves_below (n ∷ ns) (v ∷ vs) long each =
    and_from (nat_lt v.0 n) (are_below ns (map mv_number vs)) (lt-ltb v.0 n (each 0 (omega arith))) (moves_below ns vs (omega (arith, long)) (λ x below. each (suc x) (omega (arith, below))))

below_length : (ns xs : List ℕ) → are_below ns xs ≡ true → length xs ≡ length ns
below_length [] [] h = refl
below_length [] (x ∷ xs) h = absurd (cc h)
below_length (n ∷ ns) [] h = absurd (cc h)
below_length (n ∷ ns) (x ∷ xs) h = ap suc (below_length ns xs ((and_parts (nat_lt x n) (are_below ns xs) h).1))

value_in_range : (ns xs : List ℕ) → are_below ns xs ≡ true → (x : ℕ) → x < length ns → number_of (map value xs) x < slice_index_or ns x 0
value_in_range [] xs h x below = absurd (omega (arith, below))
value_in_range (n ∷ ns) [] h x below = absurd (cc h)
value_in_range (n ∷ ns) (v ∷ vs) h zero below = ltb-true v n ((and_parts (nat_lt v n) (are_below ns vs) h).0)
value_in_range (n ∷ ns) (v ∷ vs) h (suc x) below = value_in_range ns vs ((and_parts (nat_lt v n) (are_below ns vs) h).1) x (omega (arith, below))

move_in_range : (ns xs : List ℕ) → are_below ns xs ≡ true → (x : ℕ) → x < length ns → compiled.move_number (map move_number xs) x < slice_index_or ns x 0
move_in_range [] xs h x below = absurd (omega (arith, below))
move_in_range (n ∷ ns) [] h x below = absurd (cc h)
move_in_range (n ∷ ns) (v ∷ vs) h zero below = ltb-true v n ((and_parts (nat_lt v n) (are_below ns vs) h).0)
move_in_range (n ∷ ns) (v ∷ vs) h (suc x) below = move_in_range ns vs ((and_parts (nat_lt v n) (are_below ns vs) h).1) x (omega (arith, below))

is_assignment : (ns xs : List ℕ) → are_below ns xs ≡ true → IsAssignment ns (map value xs)
is_assignment ns xs h = record { whole = length-map xs value ∙ below_length ns xs h; in_range = value_in_range ns xs h }

is_full_choice : (ns xs : List ℕ) → are_below ns xs ≡ true → IsFullChoice ns (map move_number xs)
is_full_choice ns xs h = record { whole = length-map xs move_number ∙ below_length ns xs h; in_range = move_in_range ns xs h }

-- where no values satisfy the clauses and make literals true that hold of such steps, there is no such step
module _ (plant : Plant) (present : List Observation) (ends : List ValId → Bool) (set : ClauseMap) (lits : List Lit) (s : State) (pairs : List Pair) (asks : Asks plant present ends set)
    (hold : (values : List Bool) (a : List ValId) → Encode (truth_in values) (booleans_now plant) a → has_modes plant.parts s.modes a ≡ true → has_controls (controls plant) a pairs ≡ true
    → list_all (lit_holds values) lits ≡ true) where
  refuted_by : ((values : List Bool) → IsModel set lits values → ⊥) → some_nominal_step plant present s pairs ends ≡ false
  refuted_by none = by (some_nominal_step plant present s pairs ends) refl
    where
      model : some_nominal_step plant present s pairs ends ≡ true → ⊥
      model h =
          let f : StepFound plant present s pairs ends = step_found plant present s pairs ends h in
          let a : List ValId = map value f.step.before in
          let b : List ValId = map value f.step.after in
          let ms : List MoveId = map move_number f.step.moves in
          let one : IsAssignment (sizes plant) a = is_assignment (sizes plant) f.step.before f.step.before_below in
          let other : IsAssignment (sizes plant) b = is_assignment (sizes plant) f.step.after f.step.after_below in
          let choice : IsFullChoice (move_counts plant) ms = is_full_choice (move_counts plant) f.step.moves f.step.moves_below in
          let values : List Bool = encoded plant a b ms in
          let code : Encodes plant values a b ms =
          record { now = encodes_now plant a b ms one other choice; next = encodes_next plant a b ms one other choice; choice = encodes_moves plant a b ms one other choice }
          in
          none values
          (record {
            len = length-encoded plant a b ms one other choice ∙ sym asks.bools;
            all_clauses =
                asks.exact values a b ms code
                ∙ and_from ((is_step plant a b ms && meets a present) && is_nominal plant ms) (ends b)
                (and_from (is_step plant a b ms && meets a present) (is_nominal plant ms) (and_from (is_step plant a b ms) (meets a present) f.step.step f.step.observed) f.step.nominal) f.ends_so;
            all_assumptions = hold values a code.now f.step.modes f.step.commanded;
          })

      by : (t : Bool) → some_nominal_step plant present s pairs ends ≡ t → t ≡ false
      by true e = absurd (model e)
      by false e = refl

module _ (plant : Plant) (present : List Observation) (ends : List ValId → Bool) (set : ClauseMap) (lits : List Lit) (s : State) (pairs : List Pair)
    (asks : Asks plant present ends set) (assumes : Assumes plant [] lits (λ a. has_modes plant.parts s.modes a && has_controls (controls plant) a pairs)) where
  -- values that satisfy clauses and assumptions are a nominal step
  pub model_is_step : (values : List Bool) → IsModel set lits values → some_nominal_step plant present s pairs ends ≡ true
  model_is_step values m =
      let e : IsEncodedStep plant (truth_in values) = asks.decodes values m.all_clauses in
      let a : List ValId = e.before in
      let b : List ValId = e.after in
      let ms : List MoveId = e.moves in
      let code : Encodes plant values a b ms = record { now = e.now; next = e.next; choice = e.choice } in
      let begins = and_parts (has_modes plant.parts s.modes a) (has_controls (controls plant) a pairs) (sym (assumes.exact values a e.now) ∙ m.all_assumptions) in
      let all = and_parts ((is_step plant a b ms && meets a present) && is_nominal plant ms) (ends b) (sym (asks.exact values a b ms code) ∙ m.all_clauses) in
      let goes = and_parts (is_step plant a b ms && meets a present) (is_nominal plant ms) all.0 in
      let steps = and_parts (is_step plant a b ms) (meets a present) goes.0 in
      let a_is = sym (values_back a) in
      let b_is = sym (values_back b) in
      let ms_is = sym (moves_back ms) in
      let step : NominalStep plant present s pairs =
      record {
        before = map val_number a;
        after = map val_number b;
        moves = map mv_number ms;
        before_below = values_below (sizes plant) a e.whole_before e.now.in_range;
        after_below = values_below (sizes plant) b e.whole_after e.next.in_range;
        moves_below = moves_below (move_counts plant) ms e.choice.each e.choice.in_range;
        modes = subst (λ (x : List ValId). has_modes plant.parts s.modes x ≡ true) a_is begins.0;
        commanded = subst (λ (x : List ValId). has_controls (controls plant) x pairs ≡ true) a_is begins.1;
        observed = subst (λ (x : List ValId). meets x present ≡ true) a_is steps.1;
        step = (λ i. is_step plant (values_back a i) (values_back b i) (moves_back ms i)) ∙ steps.0;
        nominal = subst (λ (x : List MoveId). is_nominal plant x ≡ true) ms_is goes.1;
      }
      in
      found_step plant present s pairs ends step (subst (λ (x : List ValId). ends x ≡ true) b_is all.1)

  -- where there are none there is no such step
  pub refuted : ((values : List Bool) → IsModel set lits values → ⊥) → some_nominal_step plant present s pairs ends ≡ false
  refuted none =
      refuted_by plant present ends set lits s pairs asks
      (λ values a code modes commanded. assumes.exact values a code ∙ and_from (has_modes plant.parts s.modes a) (has_controls (controls plant) a pairs) modes commanded) none

  module _ (given : List Lit) (same : given ≡ lits) (answer : Answer) (told : Answers set given answer) where
    pub told_sat : (values : List Bool) (log : List Step) → answer ≡ Sat values log → true ≡ some_nominal_step plant present s pairs ends
    told_sat values log is =
        let found : IsSatisfied set given values log = subst (λ (x : Answer). Answers set given x) is told in
        sym (model_is_step values (subst (λ (ls : List Lit). IsModel set ls values) same found.model))

    pub told_unsat : (core : List Lit) (log : List Step) → answer ≡ Unsat core log → false ≡ some_nominal_step plant present s pairs ends
    told_unsat core log is =
        let none : IsRefutation set given core log = subst (λ (x : Answer). Answers set given x) is told in
        sym (refuted (λ values m. none.none values (subst (λ (ls : List Lit). IsModel set ls values) (sym same) m)))

  -- the same of a refutation that tells which of the literals it needed
  pub told_core : MarkedHold plant s.modes pairs lits → (given assumed : List Lit) → given ≡ lits → assumed ≡ [] → (core : Option Marks) → Refutes set given assumed core → RefutesSteps plant present ends s pairs core
  told_core hold given assumed same none None told =
      model_is_step told.values (subst (λ (ls : List Lit). IsModel set ls told.values) ((λ i. same i ++ none i) ∙ append-nil lits) told.model)
  told_core hold given assumed same none (Some marks) told =
      refuted_by plant present ends set (filter (is_marked marks) lits) s (marked_controls plant marks pairs) asks (hold.each marks)
      (λ values m. told values (subst (λ (ls : List Lit). IsModel set ls values) (sym ((λ i. filter (is_marked marks) (same i) ++ none i) ∙ append-nil (filter (is_marked marks) lits))) m))
