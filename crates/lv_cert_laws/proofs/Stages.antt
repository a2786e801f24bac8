-- What the stages of a recovery show: from which states its values reach the goals, and which goals no nominal step misses.
use Rattle.std.proofs.Common.{◌≡◌, ℕ, suc, ◌+◌, ◌<◌, ◌≤◌, true, List, [], ◌∷◌, length, Some, slice_get, inl, inr, ⊎_elim, refl, sym, subst, ◌∙◌, arith}
use Rattle.std.specs.Prelude.{map}
use Rattle.std.proofs.lemmas.Bool.{cases_lt}
use Rattle.std.proofs.lemmas.Option.{slice_get_within}
use Rattle.lv_cert_meaning.specs.lv_base.Choices.{pairs_of}
use Rattle.lv_cert_meaning.specs.lv_base.Tree.{Tree, truth_of}
use Rattle.lv_cert_meaning.specs.lv_model.declared.plant.Plant.{Plant}
use Rattle.lv_cert_meaning.specs.lv_model.declared.state.TrackedState.{TrackedState}
use Rattle.lv_cert_meaning.specs.lv_meaning.Possible.{value}
use Rattle.lv_cert_meaning.proofs.lv_meaning.Among.{Among}
use Rattle.lv_cert_meaning.specs.lv_meaning.Recovers.{meets_goals, reaches, is_sure_from, recovers}
use Rattle.lv_cert_meaning.specs.lv_meaning.RecoveryLaws.{NominalStep, LeadsToGoals}
use Rattle.lv_cert_meaning.proofs.lv_meaning.NominalSteps.{StepFound, step_found, leads_sure, each_passes}
use Rattle.lv_cert_meaning.specs.Stated.{Stated}
use Rattle.lv_cert_meaning.specs.Laws.{aim_of}

module _ {X : Type 0} where
  -- the place of an item
  record StandsIn (xs : List X) (x : X) : Type 0 where
    place : ℕ
    below : place < length xs
    at : slice_get xs place ≡ Some x

  placed : (xs : List X) (x : X) → Among x xs → StandsIn xs x
  placed [] x a = absurd a
  placed (y ∷ ys) x (inl e) = record { place = 0; below = omega arith; at = let same : Some y ≡ Some x = (λ i. Some (sym e i)) in same }
  placed (y ∷ ys) x (inr a) = let r : StandsIn ys x = placed ys x a in let less = r.below in record { place = suc r.place; below = omega (arith, less); at = r.at }

  same_item : (xs : List X) (i j : ℕ) (x y : X) → slice_get xs i ≡ Some x → slice_get xs j ≡ Some y → i ≡ j → x ≡ y
  same_item xs i j x y one other same =
      let both : Some x ≡ Some y = sym one ∙ (λ k. slice_get xs (same k)) ∙ other in
      cc both

module _ (plant : Plant) (s : Stated) (u : List ℕ) where
  -- each nominal step from the state with these values ends with the goal true
  abbrev pub NeverMisses : TrackedState → Tree → Type 0
  NeverMisses x goal = (w : NominalStep plant s.facts.present x.state (pairs_of u)) → truth_of (map value w.after) 0 goal ≡ true

  -- the values reach the goals from the first n states
  pub record AreReached (n : ℕ) : Type 0 where
    pub each : (i : ℕ) (x : TrackedState) → slice_get s.tracked i ≡ Some x → i < n → reaches plant (aim_of s) x.state (pairs_of u) ≡ true

  -- they miss no goal from so many states, and none of so many goals from the state behind these
  pub record AreUnmissed (states goals : ℕ) : Type 0 where
    pub before : (i g : ℕ) (x : TrackedState) (goal : Tree) → slice_get s.tracked i ≡ Some x → slice_get s.goals g ≡ Some goal → i < states → NeverMisses x goal
    pub here : (g : ℕ) (x : TrackedState) (goal : Tree) → slice_get s.tracked states ≡ Some x → slice_get s.goals g ≡ Some goal → g < goals → NeverMisses x goal

  pub none_reached : AreReached 0
  none_reached = record { each = λ i x at less. absurd (omega (arith, less)) }

  pub none_unmissed : AreUnmissed 0 0
  none_unmissed = record { before = λ i g x goal at there less. absurd (omega (arith, less)); here = λ g x goal at there less. absurd (omega (arith, less)) }

  pub one_reached : (n : ℕ) (x : TrackedState) → AreReached n → slice_get s.tracked n ≡ Some x → reaches plant (aim_of s) x.state (pairs_of u) ≡ true → AreReached (n + 1)
  one_reached n x are at can =
      record {
        each =
            λ i y is less.
            ⊎_elim (λ few. are.each i y is few)
            (λ past. subst (λ (z : TrackedState). reaches plant (aim_of s) z.state (pairs_of u) ≡ true) (same_item s.tracked n i x y at is (omega (arith, past, less))) can)
            (cases_lt i n);
      }

  pub one_goal_more : (states g : ℕ) (x : TrackedState) (goal : Tree) → AreUnmissed states g → slice_get s.tracked states ≡ Some x → slice_get s.goals g ≡ Some goal → NeverMisses x goal
      → AreUnmissed states (g + 1)
  one_goal_more states g x goal are at there never =
      record {
        before = are.before;
        here =
            λ k y other is other_there less.
            ⊎_elim (λ few. are.here k y other is other_there few)
            (λ past.
            subst (λ (z : TrackedState). NeverMisses z other) (same_item s.tracked states states x y at is refl)
            (subst (λ (z : Tree). NeverMisses x z) (same_item s.goals g k goal other there other_there (omega (arith, past, less))) never))
            (cases_lt k g);
      }

  pub one_state_more : (states g : ℕ) → length s.goals ≤ g → AreUnmissed states g → AreUnmissed (states + 1) 0
  one_state_more states g all are =
      record {
        before =
            λ i k x goal at there less.
            ⊎_elim (λ few. are.before i k x goal at there few)
            (λ past.
            let same : i ≡ states = omega (arith, past, less) in
            let within : k < length s.goals = slice_get_within s.goals k goal there in
            are.here k x goal (subst (λ n. slice_get s.tracked n ≡ Some x) same at) there (omega (arith, within, all)))
            (cases_lt i states);
        here = λ k x goal at there less. absurd (omega (arith, less));
      }

  -- from every state the values lead to the goals
  pub all_sure : (n m : ℕ) → length s.tracked ≤ n → AreReached n → length s.tracked ≤ m → AreUnmissed m 0 → recovers plant (aim_of s) u ≡ true
  all_sure n m all reached each unmissed = each_passes (is_sure_from plant (aim_of s) u) s.tracked (λ x a. leads_sure plant (aim_of s) u x.state (leads x a))
    where
      leads : (x : TrackedState) → Among x s.tracked → LeadsToGoals plant (aim_of s) u x.state
      leads x a =
          let stands : StandsIn s.tracked x = placed s.tracked x a in
          let less = stands.below in
          let f : StepFound plant s.facts.present x.state (pairs_of u) (meets_goals s.goals) =
          step_found plant s.facts.present x.state (pairs_of u) (meets_goals s.goals) (reached.each stands.place x stands.at (omega (arith, less, all))) in
          record {
            step = f.step;
            goals =
                λ w.
                each_passes (truth_of (map value w.after) 0) s.goals
                (λ goal b.
                let there : StandsIn s.goals goal = placed s.goals goal b in
                unmissed.before stands.place there.place x goal stands.at there.at (omega (arith, less, each)) w);
          }
