-- The reason of a command set that doesn't recover is in none that recovers.
use Rattle.std.proofs.Common.{◌≡◌, ℕ, suc, ◌+◌, Bool, true, false, ◌&&◌, not, List, [], ◌∷◌, ◌++◌, length, get_or, Option, Some, None, cond, inl, inr, refl, sym, ◌∙◌, ap, ap₂, nat_eq, nat_lt, arith, append_assoc}
use Rattle.std.specs.List.{list_all, find}
use Rattle.std.specs.Option.{option_map_or}
use Rattle.std.specs.Cmp.Lexicographic.{pointwise}
use Rattle.std.proofs.Math.Seq.{get_or-append_seam}
use Rattle.std.proofs.lemmas.Bool.{and_from, and_parts, eqb-true}
use Rattle.std.proofs.lemmas.List.{length-append}
use Rattle.lv_base.specs.declared.search.Pair.{Pair}
use Rattle.lv_base.specs.declared.search.Candidate.{Candidate}
use Rattle.lv_base.specs.Choices.{picks, contains_all, pairs_from, pairs_of, slots_rise, slots_rise_from}
use Rattle.lv_model.specs.declared.plant.Plant.{Plant}
use Rattle.lv_model.specs.declared.state.State.{State}
use Rattle.lv_model.specs.declared.state.TrackedState.{TrackedState}
use Rattle.lv_model.specs.Lists.{controls}
use Rattle.lv_boxes.specs.Reason.{reduced}
use Rattle.lv_boxes.specs.WalkLaws.{IsMonotone, IsSound, each_is_needed}
use Rattle.lv_boxes.proofs.ReasonLemmas.{still_impossible, part_of_all, still_rising, all_needed}
use Rattle.lv_meaning.proofs.Among.{Among, all_among}
use Rattle.lv_meaning.proofs.Reasons.{own_pairs, at_pairs, apart_by}
use Rattle.lv_meaning.specs.declared.aim.Aim.{Aim}
use Rattle.lv_meaning.specs.Recovers.{has_control, meets_goals, reaches, can_miss, is_sure, is_sure_from, recovers}
use Rattle.lv_meaning.specs.Commands.{control_sizes, is_command_set}
use Rattle.lv_meaning.specs.Recovery.{reason_from, first_unsure, command_reason, candidate_recovers, candidate_reason}
use Rattle.lv_meaning.proofs.NominalSteps.{some_step_less, reaches_without}

-- all choices as pairs are at slots that rise
own_slots_rise : (slot : ℕ) (cs : List ℕ) → slots_rise_from slot (pairs_from slot cs) ≡ true
own_slots_rise slot [] = refl
own_slots_rise slot (c ∷ cs) = and_from (nat_lt slot (slot + 1)) (slots_rise_from (slot + 1) (pairs_from (slot + 1) cs)) (grind arith) (own_slots_rise (slot + 1) cs)

-- lists as long as each other of which one has all choices of the other are one
pub same_choices : (front us vs : List ℕ) → length us ≡ length vs → contains_all (front ++ vs) (pairs_from (length front) us) ≡ true → us ≡ vs
same_choices front [] [] long all = refl
same_choices front [] (v ∷ vs) long all = absurd (omega arith)
same_choices front (u ∷ us) [] long all = absurd (omega arith)
same_choices front (u ∷ us) (v ∷ vs) long all =
    let longer : length (front ++ (v ∷ [])) ≡ length front + 1 = length-append front (v ∷ []) ∙ omega arith in
    let parts = and_parts (picks (front ++ (v ∷ vs)) (record { slot = length front; choice = u })) (contains_all (front ++ (v ∷ vs)) (pairs_from (length front + 1) us)) all in
    let picked = and_parts (nat_lt (length front) (length (front ++ (v ∷ vs)))) (nat_eq (get_or (front ++ (v ∷ vs)) (length front) 0) u) parts.0 in
    let same : u ≡ v = sym (eqb-true (get_or (front ++ (v ∷ vs)) (length front) 0) u picked.1) ∙ get_or-append_seam front v vs 0 in
    ap₂ (λ (x : ℕ) (xs : List ℕ). x ∷ xs) same
    (same_choices (front ++ (v ∷ [])) us vs (omega arith) ((λ i. contains_all (append_assoc front (v ∷ []) vs i) (pairs_from (longer i) us)) ∙ parts.1))

pub same_length : (us sizes : List ℕ) → pointwise nat_lt us sizes ≡ true → length us ≡ length sizes
same_length [] [] h = refl
same_length [] (n ∷ ns) h = absurd (cc h)
same_length (u ∷ us) [] h = absurd (cc h)
same_length (u ∷ us) (n ∷ ns) h = ap suc (same_length us ns ((and_parts (nat_lt u n) (pointwise nat_lt us ns) h).1))

module _ (plant : Plant) (aim : Aim) where
  pub reaches_is_monotone : (s : State) → IsMonotone (reaches plant aim s)
  reaches_is_monotone s = record { without = λ front p back. reaches_without plant aim s front back p }

  -- where all pairs stand in a list of values, these reach the goals only where the pairs do
  reaches_part : (s : State) (v : List ℕ) (pairs : List Pair) → contains_all v pairs ≡ true → reaches plant aim s (pairs_of v) ≡ true → reaches plant aim s pairs ≡ true
  reaches_part s v pairs inside =
      some_step_less plant aim.present s (pairs_of v) pairs (meets_goals aim.goals) (λ a all. at_pairs (has_control (controls plant) a) v pairs all inside)

  reason_inside : (u : List ℕ) (s : State) → contains_all u (reason_from plant aim u s) ≡ true
  reason_inside u s = by (reaches plant aim s (pairs_of u))
    where
      by : (b : Bool) → contains_all u (cond b (pairs_of u) (reduced (reaches plant aim s) [] (pairs_of u))) ≡ true
      by true = own_pairs [] u
      by false = part_of_all (reaches plant aim s) (picks u) [] (pairs_of u) refl (own_pairs [] u)

  reason_rises : (u : List ℕ) (s : State) → slots_rise (reason_from plant aim u s) ≡ true
  reason_rises u s = by (reaches plant aim s (pairs_of u))
    where
      by : (b : Bool) → slots_rise (cond b (pairs_of u) (reduced (reaches plant aim s) [] (pairs_of u))) ≡ true
      by true = own_slots_rise 0 u
      by false = still_rising (reaches plant aim s) [] (pairs_of u) (own_slots_rise 0 u)

  pub reason_is_inside : (u : List ℕ) → contains_all u (command_reason plant aim u) ≡ true
  reason_is_inside u = by (first_unsure plant aim u)
    where
      by : (o : Option TrackedState) → contains_all u (option_map_or (λ (s : TrackedState). reason_from plant aim u s.state) o []) ≡ true
      by None = refl
      by (Some s) = reason_inside u s.state

  pub reason_is_rising : (u : List ℕ) → slots_rise (command_reason plant aim u) ≡ true
  reason_is_rising u = by (first_unsure plant aim u)
    where
      by : (o : Option TrackedState) → slots_rise (option_map_or (λ (s : TrackedState). reason_from plant aim u s.state) o []) ≡ true
      by None = refl
      by (Some s) = reason_rises u s.state

  -- where the goals aren't reached the reason is what deletion leaves
  reduced_reason : (u : List ℕ) (s : State) → reaches plant aim s (pairs_of u) ≡ false → reason_from plant aim u s ≡ reduced (reaches plant aim s) [] (pairs_of u)
  reduced_reason u s e = ap (λ b. cond b (pairs_of u) (reduced (reaches plant aim s) [] (pairs_of u))) e

  pub reason_is_blocked : (u : List ℕ) (s : State) → reaches plant aim s (pairs_of u) ≡ false → reaches plant aim s (reason_from plant aim u s) ≡ false
  reason_is_blocked u s e = ap (reaches plant aim s) (reduced_reason u s e) ∙ still_impossible (reaches plant aim s) [] (pairs_of u) e

  pub reason_is_needed : (u : List ℕ) (s : State) → reaches plant aim s (pairs_of u) ≡ false → each_is_needed (reaches plant aim s) [] (reason_from plant aim u s) ≡ true
  reason_is_needed u s e =
      ap (each_is_needed (reaches plant aim s) []) (reduced_reason u s e) ∙ all_needed (reaches plant aim s) (reaches_is_monotone s) [] (pairs_of u) refl

  -- a state from which values aren't sure, with the reason
  record IsUnsure (u : List ℕ) (states : List TrackedState) (o : Option TrackedState) : Type 0 where
    unsure : TrackedState
    found : o ≡ Some unsure
    tracked : Among unsure states
    not_sure : is_sure plant aim u unsure.state ≡ false

  some_unsure : (u : List ℕ) (states : List TrackedState) → list_all (is_sure_from plant aim u) states ≡ false → IsUnsure u states (find (λ (s : TrackedState). not (is_sure_from plant aim u s)) states)
  some_unsure u [] h = absurd (cc h)
  some_unsure u (s ∷ ss) h = by (is_sure_from plant aim u s) refl (λ e. some_unsure u ss (sym (ap (λ b. b && list_all (is_sure_from plant aim u) ss) e) ∙ h))
    where
      by : (b : Bool) → is_sure_from plant aim u s ≡ b
          → (is_sure_from plant aim u s ≡ true → IsUnsure u ss (find (λ (t : TrackedState). not (is_sure_from plant aim u t)) ss))
          → IsUnsure u (s ∷ ss) (cond (not b) (Some s) (find (λ (t : TrackedState). not (is_sure_from plant aim u t)) ss))
      by true e rest =
          let r : IsUnsure u ss (find (λ (t : TrackedState). not (is_sure_from plant aim u t)) ss) = rest e in
          record { unsure = r.unsure; found = r.found; tracked = inr r.tracked; not_sure = r.not_sure }
      by false e rest = record { unsure = s; found = refl; tracked = inl refl; not_sure = e }

  -- values that are sure from the state don't contain the reason of others that aren't
  apart_from : (u v : List ℕ) (s : State) → length u ≡ length v → is_sure plant aim u s ≡ false → is_sure plant aim v s ≡ true → contains_all v (reason_from plant aim u s) ≡ false
  apart_from u v s long unsure sure = by (reaches plant aim s (pairs_of u)) refl
    where
      by : (b : Bool) → reaches plant aim s (pairs_of u) ≡ b → contains_all v (reason_from plant aim u s) ≡ false
      by true e =
          ap (λ b. contains_all v (cond b (pairs_of u) (reduced (reaches plant aim s) [] (pairs_of u)))) e
          ∙ apart_by (contains_all v (pairs_of u)) (is_sure plant aim u s) unsure (λ inside. ap (λ (xs : List ℕ). is_sure plant aim xs s) (same_choices [] u v long inside) ∙ sure)
      by false e =
          apart_by (contains_all v (reason_from plant aim u s)) (reaches plant aim s (reason_from plant aim u s)) (reason_is_blocked u s e)
          (λ inside.
          reaches_part s v (reason_from plant aim u s) inside ((and_parts (reaches plant aim s (pairs_of v)) (not (can_miss plant aim s (pairs_of v))) sure).0))

  pub reason_is_apart : (u v : List ℕ) → is_command_set plant u ≡ true → is_command_set plant v ≡ true → recovers plant aim u ≡ false → recovers plant aim v ≡ true
      → contains_all v (command_reason plant aim u) ≡ false
  reason_is_apart u v one other cannot can =
      let f : IsUnsure u aim.tracked (first_unsure plant aim u) = some_unsure u aim.tracked cannot in
      ap (λ (o : Option TrackedState). contains_all v (option_map_or (λ (s : TrackedState). reason_from plant aim u s.state) o [])) f.found
      ∙ apart_from u v f.unsure.state (same_length u (control_sizes plant) one ∙ sym (same_length v (control_sizes plant) other)) f.not_sure
      (all_among (is_sure_from plant aim v) aim.tracked f.unsure can f.tracked)

  pub reasons_are_sound : IsSound (λ (c : Candidate). is_command_set plant c.choices) (candidate_recovers plant aim) (candidate_reason plant aim)
  reasons_are_sound = record { apart = λ c d one other cannot can. reason_is_apart c.choices d.choices one other cannot can }
