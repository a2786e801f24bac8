-- The reason of a command set that tests nothing is in none that does.
use Rattle.std.proofs.Common.{◌≡◌, ℕ, suc, ◌+◌, Bool, true, false, ◌&&◌, not, List, [], ◌∷◌, ◌++◌, length, get_or, Option, Some, None, cond, inl, inr, refl, sym, ◌∙◌, ap, ap₂, nat_eq, nat_lt, arith, append_assoc}
use Rattle.std.specs.List.{list_all, find}
use Rattle.std.specs.Option.{option_map_or}
use Rattle.std.specs.Cmp.Lexicographic.{pointwise}
use Rattle.std.proofs.Math.Seq.{get_or-append_seam}
use Rattle.std.proofs.lemmas.Bool.{and_from, and_parts, eqb-true}
use Rattle.std.proofs.lemmas.List.{length-append}
use Rattle.lv_base.specs.declared.ids.VarId.{VarId}
use Rattle.lv_base.specs.declared.search.Pair.{Pair}
use Rattle.lv_base.specs.declared.search.Candidate.{Candidate}
use Rattle.lv_base.specs.Choices.{picks, contains_all, pairs_from, pairs_of, slots_rise, slots_rise_from}
use Rattle.lv_model.specs.declared.plant.Plant.{Plant}
use Rattle.lv_model.specs.declared.state.TrackedState.{TrackedState}
use Rattle.lv_model.specs.Lists.{controls}
use Rattle.lv_boxes.specs.Reason.{reduced}
use Rattle.lv_boxes.proofs.ReasonLemmas.{still_impossible, part_of_all, still_rising}
use Rattle.lv_meaning.proofs.Among.{Among, all_among}
use Rattle.lv_meaning.proofs.Reasons.{own_pairs, at_pairs, apart_by}
use Rattle.lv_meaning.proofs.CommandReasons.{same_choices, same_length}
use Rattle.lv_meaning.proofs.NominalSteps.{some_step_less}
use Rattle.lv_meaning.specs.declared.aim.Aim.{Aim}
use Rattle.lv_meaning.specs.Recovers.{has_control}
use Rattle.lv_meaning.specs.Commands.{control_sizes, is_command_set}
use Rattle.lv_reconf.specs.Tests.{can_step, some_shared, tests, first_stuck, test_reason, candidate_tests, candidate_test_reason}

module _ {X : Type 0} (p : X → Bool) where
  -- an item that doesn't pass
  pub record IsFailing (xs : List X) (o : Option X) : Type 0 where
    pub item : X
    pub found : o ≡ Some item
    pub there : Among item xs
    pub fails : p item ≡ false

  -- the first that doesn't pass is one, and where there is none all pass
  pub some_failing : (xs : List X) (x : X) → find (λ y. not (p y)) xs ≡ Some x → IsFailing xs (Some x)
  some_failing [] x e = absurd (cc e)
  some_failing (y ∷ ys) x e = by (p y) refl e (some_failing ys x)
    where
      by : (b : Bool) → p y ≡ b → cond (not b) (Some y) (find (λ z. not (p z)) ys) ≡ Some x → (find (λ z. not (p z)) ys ≡ Some x → IsFailing ys (Some x)) → IsFailing (y ∷ ys) (Some x)
      by true h e later = let f : IsFailing ys (Some x) = later e in record { item = f.item; found = f.found; there = inr f.there; fails = f.fails }
      by false h e later = record { item = y; found = sym e; there = inl refl; fails = h }

  pub all_pass : (xs : List X) → find (λ y. not (p y)) xs ≡ None → list_all p xs ≡ true
  all_pass [] e = refl
  all_pass (y ∷ ys) e = by (p y) refl e (all_pass ys)
    where
      by : (b : Bool) → p y ≡ b → cond (not b) (Some y) (find (λ z. not (p z)) ys) ≡ None → (find (λ z. not (p z)) ys ≡ None → list_all p ys ≡ true) → list_all p (y ∷ ys) ≡ true
      by true h e later = and_from (p y) (list_all p ys) h (later e)
      by false h e later = absurd (cc e)

module _ (plant : Plant) (aim : Aim) where
  abbrev from : TrackedState → List Pair → Bool
  from s pairs = can_step plant aim pairs s

  -- where all pairs stand in a list of values, there is a step with these only where there is one with the pairs
  step_part : (s : TrackedState) (v : List ℕ) (pairs : List Pair) → contains_all v pairs ≡ true → from s (pairs_of v) ≡ true → from s pairs ≡ true
  step_part s v pairs inside = some_step_less plant aim.present s.state (pairs_of v) pairs (λ b. true) (λ a all. at_pairs (has_control (controls plant) a) v pairs all inside)

  pub reason_inside : (u : List ℕ) → contains_all u (test_reason plant aim u) ≡ true
  reason_inside u = by (first_stuck plant aim u)
    where
      by : (o : Option TrackedState) → contains_all u (option_map_or (λ (s : TrackedState). reduced (from s) [] (pairs_of u)) o (pairs_of u)) ≡ true
      by None = own_pairs [] u
      by (Some s) = part_of_all (from s) (picks u) [] (pairs_of u) refl (own_pairs [] u)

  pub reason_apart : (x : VarId) (u v : List ℕ) → is_command_set plant u ≡ true → is_command_set plant v ≡ true → tests plant aim x u ≡ false → tests plant aim x v ≡ true
      → contains_all v (test_reason plant aim u) ≡ false
  reason_apart x u v one other cannot can = by (first_stuck plant aim u) refl
    where
      steps : list_all (can_step plant aim (pairs_of v)) aim.tracked ≡ true
      steps = (and_parts (list_all (can_step plant aim (pairs_of v)) aim.tracked) (not (some_shared plant aim x (pairs_of v))) can).0

      long : length u ≡ length v
      long = same_length u (control_sizes plant) one ∙ sym (same_length v (control_sizes plant) other)

      stuck : (s : TrackedState) → IsFailing (can_step plant aim (pairs_of u)) aim.tracked (Some s) → contains_all v (reduced (from s) [] (pairs_of u)) ≡ false
      stuck s f =
          let same : s ≡ f.item = cc f.found in
          let never : from s (pairs_of u) ≡ false = ap (λ t. from t (pairs_of u)) same ∙ f.fails in
          let goes : from s (pairs_of v) ≡ true = ap (λ t. from t (pairs_of v)) same ∙ all_among (can_step plant aim (pairs_of v)) aim.tracked f.item steps f.there in
          apart_by (contains_all v (reduced (from s) [] (pairs_of u))) (from s (reduced (from s) [] (pairs_of u))) (still_impossible (from s) [] (pairs_of u) never)
          (λ inside. step_part s v (reduced (from s) [] (pairs_of u)) inside goes)

      by : (o : Option TrackedState) → first_stuck plant aim u ≡ o → contains_all v (option_map_or (λ (s : TrackedState). reduced (from s) [] (pairs_of u)) o (pairs_of u)) ≡ false
      by None e = apart_by (contains_all v (pairs_of u)) (tests plant aim x u) cannot (λ inside. ap (tests plant aim x) (same_choices [] u v long inside) ∙ can)
      by (Some s) e = stuck s (some_failing (can_step plant aim (pairs_of u)) aim.tracked s e)
