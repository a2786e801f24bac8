-- However many `more` lines come, the query is that of all its trials.
use Rattle.std.proofs.Common.{◌≡◌, ℕ, ◌+◌, List, [], ◌∷◌, refl, ◌∙◌, ap, arith}
use Rattle.std.specs.List.{sum}
use Rattle.std.proofs.lemmas.List.Sums.{sum_by-cons}
use Rattle.lv_base.specs.declared.ids.VarId.{VarId}
use Rattle.lv_model.specs.declared.plant.Plant.{Plant}
use Rattle.lv_boxes.specs.declared.outcome.Outcome.{Outcome}
use Rattle.lv_boxes.specs.declared.outcome.Outcome.TheVariants.{Unsettled}
use Rattle.lv_session_state.specs.declared.query.Query.{Query}
use Rattle.lv_session_state.specs.declared.query.Query.TheVariants.{Diagnosis, Recovery, Test, Window}
use Rattle.lv_session_state.specs.State.{SessionState, walked, recovery, testing, tracing, more, more_by, more_recovery_by, more_test_by, more_window_by}
use Rattle.lv_session.specs.Laws.{gone_on, GoesOn}

-- which query is current plays no part in what one comes to
other_walk : (plant : Plant) (state : SessionState) (q : Query) (trials : ℕ) → walked plant (record state { query = q }) trials ≡ walked plant state trials
unfolding walked
other_walk plant state q trials = refl

other_recovery : (plant : Plant) (state : SessionState) (q : Query) (trials : ℕ) → recovery plant (record state { query = q }) trials ≡ recovery plant state trials
unfolding recovery
other_recovery plant state q trials = refl

other_test : (plant : Plant) (state : SessionState) (q : Query) (x : VarId) (trials : ℕ) → testing plant (record state { query = q }) x trials ≡ testing plant state x trials
unfolding testing
other_test plant state q x trials = refl

other_window : (plant : Plant) (state : SessionState) (q : Query) (steps trials : ℕ) → tracing plant (record state { query = q }) steps trials ≡ tracing plant state steps trials
unfolding tracing
other_window plant state q steps trials = refl

sum_more : (first n : ℕ) (ns : List ℕ) → first + n + sum ns ≡ first + sum (n ∷ ns)
sum_more first n ns = let more = sum_by-cons (λ (k : ℕ). k) n ns in omega (arith, more)

module _ (plant : Plant) (state : SessionState) where
  -- the state with a diagnosis of so many trials goes on to that with more of them
  one_slice : (first n : ℕ) → (walked plant state first).outcome ≡ Unsettled
      → (more (Diagnosis first) plant (record state { query = Diagnosis first }) n).state ≡ record state { query = Diagnosis (first + n) }
  one_slice first n unsettled =
      ap (λ (o : Outcome). (more_by o plant (record state { query = Diagnosis first }) (first + n)).state) (ap (λ w. w.outcome) (other_walk plant state (Diagnosis first) first) ∙ unsettled)

  slices : (first : ℕ) (ns : List ℕ) → GoesOn (λ trials. (walked plant state trials).outcome) first ns
      → gone_on plant (record state { query = Diagnosis first }) ns ≡ record state { query = Diagnosis (first + sum ns) }
  slices first [] on = let none : first ≡ first + sum [] = omega arith in ap (λ (t : ℕ). record state { query = Diagnosis t }) none
  slices first (n ∷ ns) on =
      ap (λ (s : SessionState). gone_on plant s ns) (one_slice first n on.0) ∙ slices (first + n) ns on.1
      ∙ ap (λ (t : ℕ). record state { query = Diagnosis t }) (sum_more first n ns)

  one_recovery : (first n : ℕ) → (recovery plant state first).outcome ≡ Unsettled
      → (more (Recovery first) plant (record state { query = Recovery first }) n).state ≡ record state { query = Recovery (first + n) }
  one_recovery first n unsettled =
      ap (λ (o : Outcome). (more_recovery_by o plant (record state { query = Recovery first }) (first + n)).state)
      (ap (λ w. w.outcome) (other_recovery plant state (Recovery first) first) ∙ unsettled)

  recoveries : (first : ℕ) (ns : List ℕ) → GoesOn (λ trials. (recovery plant state trials).outcome) first ns
      → gone_on plant (record state { query = Recovery first }) ns ≡ record state { query = Recovery (first + sum ns) }
  recoveries first [] on = let none : first ≡ first + sum [] = omega arith in ap (λ (t : ℕ). record state { query = Recovery t }) none
  recoveries first (n ∷ ns) on =
      ap (λ (s : SessionState). gone_on plant s ns) (one_recovery first n on.0) ∙ recoveries (first + n) ns on.1
      ∙ ap (λ (t : ℕ). record state { query = Recovery t }) (sum_more first n ns)

  one_test : (x : VarId) (first n : ℕ) → (testing plant state x first).outcome ≡ Unsettled
      → (more (Test x first) plant (record state { query = Test x first }) n).state ≡ record state { query = Test x (first + n) }
  one_test x first n unsettled =
      ap (λ (o : Outcome). (more_test_by o plant (record state { query = Test x first }) x (first + n)).state)
      (ap (λ w. w.outcome) (other_test plant state (Test x first) x first) ∙ unsettled)

  tests : (x : VarId) (first : ℕ) (ns : List ℕ) → GoesOn (λ trials. (testing plant state x trials).outcome) first ns
      → gone_on plant (record state { query = Test x first }) ns ≡ record state { query = Test x (first + sum ns) }
  tests x first [] on = let none : first ≡ first + sum [] = omega arith in ap (λ (t : ℕ). record state { query = Test x t }) none
  tests x first (n ∷ ns) on =
      ap (λ (s : SessionState). gone_on plant s ns) (one_test x first n on.0) ∙ tests x (first + n) ns on.1
      ∙ ap (λ (t : ℕ). record state { query = Test x t }) (sum_more first n ns)

  one_window : (steps first n : ℕ) → (tracing plant state steps first).outcome ≡ Unsettled
      → (more (Window steps first) plant (record state { query = Window steps first }) n).state ≡ record state { query = Window steps (first + n) }
  one_window steps first n unsettled =
      ap (λ (o : Outcome). (more_window_by o plant (record state { query = Window steps first }) steps (first + n)).state)
      (ap (λ w. w.outcome) (other_window plant state (Window steps first) steps first) ∙ unsettled)

  windows : (steps first : ℕ) (ns : List ℕ) → GoesOn (λ trials. (tracing plant state steps trials).outcome) first ns
      → gone_on plant (record state { query = Window steps first }) ns ≡ record state { query = Window steps (first + sum ns) }
  windows steps first [] on = let none : first ≡ first + sum [] = omega arith in ap (λ (t : ℕ). record state { query = Window steps t }) none
  windows steps first (n ∷ ns) on =
      ap (λ (s : SessionState). gone_on plant s ns) (one_window steps first n on.0) ∙ windows steps (first + n) ns on.1
      ∙ ap (λ (t : ℕ). record state { query = Window steps t }) (sum_more first n ns)

  pub diagnosis_slices : (first : ℕ) (ns : List ℕ) → state.query ≡ Diagnosis first → GoesOn (λ trials. (walked plant state trials).outcome) first ns
      → gone_on plant state ns ≡ record state { query = Diagnosis (first + sum ns) }
  diagnosis_slices first ns is on = ap (λ (q : Query). gone_on plant (record state { query = q }) ns) is ∙ slices first ns on

  pub recovery_slices : (first : ℕ) (ns : List ℕ) → state.query ≡ Recovery first → GoesOn (λ trials. (recovery plant state trials).outcome) first ns
      → gone_on plant state ns ≡ record state { query = Recovery (first + sum ns) }
  recovery_slices first ns is on = ap (λ (q : Query). gone_on plant (record state { query = q }) ns) is ∙ recoveries first ns on

  pub test_slices : (x : VarId) (first : ℕ) (ns : List ℕ) → state.query ≡ Test x first → GoesOn (λ trials. (testing plant state x trials).outcome) first ns
      → gone_on plant state ns ≡ record state { query = Test x (first + sum ns) }
  test_slices x first ns is on = ap (λ (q : Query). gone_on plant (record state { query = q }) ns) is ∙ tests x first ns on

  pub window_slices : (steps first : ℕ) (ns : List ℕ) → state.query ≡ Window steps first → GoesOn (λ trials. (tracing plant state steps trials).outcome) first ns
      → gone_on plant state ns ≡ record state { query = Window steps (first + sum ns) }
  window_slices steps first ns is on = ap (λ (q : Query). gone_on plant (record state { query = q }) ns) is ∙ windows steps first ns on
