-- What is known of a window, step by step.
use Rattle.std.proofs.Common.{append-nil, ◌≡◌, ℕ, zero, suc, ◌+◌, ◌<◌, ◌≤◌, List, [], ◌∷◌, ◌++◌, length, drop, get_or, slice_get, Some, refl, sym, subst, ap, ap₂, ◌∙◌, arith, All, add-one}
use Rattle.std.specs.List.{sum}
use Rattle.std.proofs.lemmas.List.{drop_more, drop_all, append_assoc}
use Rattle.std.proofs.lemmas.List.Elements.{All-tail, All-cons, All-append}
use Rattle.lv_base.specs.declared.ids.Lit.{Lit}
use Rattle.lv_model.specs.declared.plant.Plant.{Plant}
use Rattle.lv_model.specs.Lists.{sizes}
use Rattle.lv_compile.specs.Booleans.{Booleans, booleans_from}
use Rattle.lv_compile.specs.Windows.{past_copies, window_choice}
use Rattle.lv_compile.proofs.BooleanLemmas.{is_there, among_all}
use Rattle.lv_system.specs.Windows.{copies_from}
use Rattle.lv_meaning.specs.declared.facts.Observation.{Observation}
use Rattle.lv_meaning.specs.declared.facts.Facts.{Facts}
use Rattle.lv_meaning.specs.Facts.{HasValue, now_facts}
use Rattle.lv_asking.specs.Literals.{observed_literal, observed_literals, IsPositive}
use Rattle.lv_window.specs.Known.{StepFits, HasCopiesOf, step_literals, window_literals}

module _ (plant : Plant) where
  -- the copies stand one behind the other
  pub copy_at : (first n i : ℕ) → i < n → slice_get (copies_from plant first n) i ≡ Some (booleans_from plant (past_copies plant first i))
  copy_at first zero i within = absurd (omega (arith, within))
  copy_at first (suc n) zero within = refl
  copy_at first (suc n) (suc i) within = copy_at (first + sum (sizes plant)) n i (omega (arith, within))

  pub copy_is : (copies : List Booleans) → HasCopiesOf plant copies → (i : ℕ) → i < length copies → (b : Booleans) → slice_get copies i ≡ Some b → b ≡ booleans_from plant (past_copies plant 0 i)
  copy_is copies has i within b at =
      let same : Some b ≡ Some (booleans_from plant (past_copies plant 0 i)) = sym at ∙ ap (λ (cs : List Booleans). slice_get cs i) has.are ∙ copy_at 0 (length copies) i within in
      cc same

  copies_many : (first n : ℕ) → length (copies_from plant first n) ≡ n
  copies_many first zero = refl
  copies_many first (suc n) = let rest = copies_many (first + sum (sizes plant)) n in omega (arith, rest)

  pub copies_of_window : (copies : List Booleans) (steps : ℕ) → copies ≡ copies_from plant 0 (suc steps) → HasCopiesOf plant copies × (length copies ≡ steps + 1)
  copies_of_window copies steps are =
      let many : length copies ≡ suc steps = ap (λ (cs : List Booleans). length cs) are ∙ copies_many 0 (suc steps) in
      (record { are = are ∙ ap (copies_from plant 0) (sym many) }, omega (arith, many))

  past_suc : (first i : ℕ) → past_copies plant first (suc i) ≡ past_copies plant first i + sum (sizes plant)
  past_suc first zero = refl
  past_suc first (suc i) = past_suc (first + sum (sizes plant)) i

  pub past_more : (first i : ℕ) → past_copies plant first (i + 1) ≡ past_copies plant first i + sum (sizes plant)
  past_more first i = ap (past_copies plant first) (add-one i) ∙ past_suc first i

  -- the step at this place, and those behind it
  pub known_more : (steps : List Facts) (i : ℕ) (d : Facts) (first : ℕ) → i < length steps
      → window_literals plant first (drop i steps) ≡ step_literals plant first (get_or steps i d) ++ window_literals plant (first + sum (sizes plant)) (drop (i + 1) steps)
  known_more steps i d first within = ap (window_literals plant first) (drop_more steps i d within)

  pub known_next : (steps : List Facts) (i : ℕ) (d : Facts) (before after whole : List Lit) → i < length steps → before ++ window_literals plant (past_copies plant 0 i) (drop i steps) ≡ whole
      → after ≡ before ++ step_literals plant (past_copies plant 0 i) (get_or steps i d) → after ++ window_literals plant (past_copies plant 0 (i + 1)) (drop (i + 1) steps) ≡ whole
  known_next steps i d before after whole within so_far is =
      ap₂ (λ (ls : List Lit) (n : ℕ). ls ++ window_literals plant n (drop (i + 1) steps)) is (past_more 0 i)
      ∙ append_assoc before (step_literals plant (past_copies plant 0 i) (get_or steps i d)) (window_literals plant (past_copies plant 0 i + sum (sizes plant)) (drop (i + 1) steps))
      ∙ ap (λ (ls : List Lit). before ++ ls) (sym (known_more steps i d (past_copies plant 0 i) within))
      ∙ so_far

  pub known_done : (steps : List Facts) (i : ℕ) (before whole : List Lit) → length steps ≤ i → before ++ window_literals plant (past_copies plant 0 i) (drop i steps) ≡ whole → before ≡ whole
  known_done steps i before whole end so_far =
      sym (append-nil before) ∙ ap (λ (fs : List Facts). before ++ window_literals plant (past_copies plant 0 i) fs) (sym (drop_all i steps end)) ∙ so_far

  -- what is known of one step is what was seen before it, and after it
  pub step_known : (facts : Facts) (steps : ℕ) (here there : Booleans) → here ≡ booleans_from plant (past_copies plant 0 steps) → there ≡ booleans_from plant (past_copies plant 0 (steps + 1))
      → (seen : List Observation) → seen ≡ now_facts plant facts → (later : List Observation) → later ≡ facts.next → (before mid after : List Lit) → mid ≡ before ++ observed_literals here seen
      → after ≡ mid ++ observed_literals there later → after ≡ before ++ step_literals plant (past_copies plant 0 steps) facts
  step_known facts steps here there here_is there_is seen seen_is later later_is before mid after one other =
      let behind : there ≡ booleans_from plant (past_copies plant 0 steps + sum (sizes plant)) = there_is ∙ ap (booleans_from plant) (past_more 0 steps) in
      other
      ∙ ap (λ (ls : List Lit). ls ++ observed_literals there later) one
      ∙ append_assoc before (observed_literals here seen) (observed_literals there later)
      ∙ (λ i. before ++ (observed_literals (here_is i) (seen_is i) ++ observed_literals (behind i) (later_is i)))

  -- each literal is of a boolean of a value
  observed_positive : (b : Booleans) (bound : ℕ) → b.first + sum b.sizes ≤ bound → (os : List Observation) → All (HasValue b.sizes) os → All (IsPositive bound) (observed_literals b os)
  observed_positive b bound few [] have = λ k d below. absurd (omega (arith, below))
  observed_positive b bound few (o ∷ os) have =
      let has = (have 0 o (omega arith)).below in
      let among = among_all b.sizes o.var.0 (is_there b.sizes o.var.0 o.val.0 has) in
      All-cons (IsPositive bound) (observed_literal b o) (observed_literals b os) (record { sign = refl; below = omega (arith, has, among, few) })
      (observed_positive b bound few os (All-tail (HasValue b.sizes) o os have))

  past_grows : (first n : ℕ) → first ≤ past_copies plant first n
  past_grows first zero = omega arith
  past_grows first (suc n) = let more = past_grows (first + sum (sizes plant)) n in omega (arith, more)

  known_positive : (steps : List Facts) (first bound : ℕ) → past_copies plant first (suc (length steps)) ≤ bound → All (StepFits plant) steps → All (IsPositive bound) (window_literals plant first steps)
  known_positive [] first bound few fits = λ k d below. absurd (omega (arith, below))
  known_positive (f ∷ fs) first bound few fits =
      let second : ℕ = first + sum (sizes plant) in
      let more = past_grows (second + sum (sizes plant)) (length fs) in
      let one = (fits 0 f (omega arith)).in_range in
      All-append (IsPositive bound) (step_literals plant first f) (window_literals plant second fs)
      (All-append (IsPositive bound) (observed_literals (booleans_from plant first) (now_facts plant f)) (observed_literals (booleans_from plant second) f.next)
      (observed_positive (booleans_from plant first) bound (omega (arith, more, few)) (now_facts plant f) one.now)
      (observed_positive (booleans_from plant second) bound (omega (arith, more, few)) f.next one.next))
      (known_positive fs second bound few (All-tail (StepFits plant) f fs fits))

  pub all_known_positive : (steps : List Facts) (n : ℕ) → n ≡ window_choice plant (length steps) → All (StepFits plant) steps → (lits : List Lit) → lits ≡ window_literals plant 0 steps → All (IsPositive n) lits
  all_known_positive steps n is fits lits lits_are =
      subst (λ (ls : List Lit). All (IsPositive n) ls) (sym lits_are) (known_positive steps 0 n (omega (arith, is)) fits)
