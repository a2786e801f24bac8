-- A goal can be missed exactly where some goal can be missed by itself.
use Rattle.std.proofs.Common.{◌≡◌, ℕ, Bool, true, false, ◌&&◌, ◌||◌, not, List, [], ◌∷◌, map, take, inl, inr, refl, sym, ap, ap₂, ◌∙◌}
use Rattle.std.specs.List.{list_all, list_any}
use Rattle.lv_base.specs.declared.search.Pair.{Pair}
use Rattle.lv_base.specs.Tree.{Tree, truth_of}
use Rattle.lv_model.specs.declared.plant.Plant.{Plant}
use Rattle.lv_model.specs.declared.state.TrackedState.{TrackedState}
use Rattle.lv_meaning.specs.Possible.{value}
use Rattle.lv_meaning.proofs.Among.{Among, all_among}
use Rattle.lv_search.proofs.lv_boxes.RankedMemberLemmas.{one_test}
use Rattle.lv_meaning.specs.declared.aim.Aim.{Aim}
use Rattle.lv_meaning.specs.Recovers.{meets_goals, can_miss}
use Rattle.lv_meaning.proofs.NominalSteps.{StepFound, step_found, found_step, denied}
use Rattle.lv_reconf.specs.Assuming.{CommandedValue, commanding}
use Rattle.lv_reconf.specs.Trying.{misses_goal, some_missed, some_can_miss}

-- an item that passes
record Passing {X : Type 0} (p : X → Bool) (xs : List X) : Type 0 where
  item : X
  listed : Among item xs
  passes : p item ≡ true

module _ {X : Type 0} (p : X → Bool) where
  some_passing : (xs : List X) → list_any p xs ≡ true → Passing p xs
  some_passing [] h = absurd (cc h)
  some_passing (x ∷ xs) h = by (p x) refl h (some_passing xs)
    where
      by : (b : Bool) → p x ≡ b → (b || list_any p xs) ≡ true → (list_any p xs ≡ true → Passing p xs) → Passing p (x ∷ xs)
      by true e any rest = record { item = x; listed = inl refl; passes = e }
      by false e any rest = let r : Passing p xs = rest any in record { item = r.item; listed = inr r.listed; passes = r.passes }

  passing_some : (xs : List X) (x : X) → Among x xs → p x ≡ true → list_any p xs ≡ true
  passing_some [] x h passes = absurd h
  passing_some (y ∷ ys) x (inl e) passes = ap (λ b. b || list_any p ys) (sym (ap p e) ∙ passes)
  passing_some (y ∷ ys) x (inr h) passes = by (p y) (passing_some ys x h passes)
    where
      by : (b : Bool) → list_any p ys ≡ true → (b || list_any p ys) ≡ true
      by true any = refl
      by false any = any

  -- some item doesn't
  some_failing : (xs : List X) → list_all p xs ≡ false → Passing (λ x. not (p x)) xs
  some_failing [] h = absurd (cc h)
  some_failing (x ∷ xs) h = by (p x) refl h (some_failing xs)
    where
      by : (b : Bool) → p x ≡ b → (b && list_all p xs) ≡ false → (list_all p xs ≡ false → Passing (λ y. not (p y)) xs) → Passing (λ y. not (p y)) (x ∷ xs)
      by false e all rest = record { item = x; listed = inl refl; passes = ap not e }
      by true e all rest = let r : Passing (λ y. not (p y)) xs = rest all in record { item = r.item; listed = inr r.listed; passes = r.passes }

  failing_all : (xs : List X) (x : X) → Among x xs → not (p x) ≡ true → not (list_all p xs) ≡ true
  failing_all xs x there fails = by (list_all p xs) refl
    where
      by : (b : Bool) → list_all p xs ≡ b → not b ≡ true
      by true e = let clash : true ≡ false = sym (all_among p xs x e there) ∙ denied (p x) fails in absurd (cc clash)
      by false e = refl

module _ {X Y : Type 0} (q : X → Y → Bool) (xs : List X) (ys : List Y) where
  some_turned : list_any (λ x. list_any (q x) ys) xs ≡ list_any (λ y. list_any (λ x. q x y) xs) ys
  some_turned =
      one_test (list_any (λ x. list_any (q x) ys) xs) (list_any (λ y. list_any (λ x. q x y) xs) ys)
      (λ h.
      let x : Passing (λ x. list_any (q x) ys) xs = some_passing (λ x. list_any (q x) ys) xs h in
      let y : Passing (q x.item) ys = some_passing (q x.item) ys x.passes in
      passing_some (λ y. list_any (λ x. q x y) xs) ys y.item y.listed (passing_some (λ z. q z y.item) xs x.item x.listed y.passes))
      (λ h.
      let y : Passing (λ y. list_any (λ x. q x y) xs) ys = some_passing (λ y. list_any (λ x. q x y) xs) ys h in
      let x : Passing (λ x. q x y.item) xs = some_passing (λ x. q x y.item) xs y.passes in
      passing_some (λ x. list_any (q x) ys) xs x.item x.listed (passing_some (q x.item) ys y.item y.listed x.passes))

any_alike : {X : Type 0} (p q : X → Bool) (xs : List X) → ((x : X) → p x ≡ q x) → list_any p xs ≡ list_any q xs
any_alike p q [] same = refl
any_alike p q (x ∷ xs) same = ap₂ (λ (a b : Bool). a || b) (same x) (any_alike p q xs same)

module _ (plant : Plant) (aim : Aim) (pairs : List Pair) where
  missed_by_goal : (s : TrackedState) → list_any (λ (g : Tree). misses_goal plant aim.present pairs g s) aim.goals ≡ can_miss plant aim s.state pairs
  missed_by_goal s =
      one_test (list_any (λ (g : Tree). misses_goal plant aim.present pairs g s) aim.goals) (can_miss plant aim s.state pairs)
      (λ h.
      let g : Passing (λ (g : Tree). misses_goal plant aim.present pairs g s) aim.goals = some_passing (λ (g : Tree). misses_goal plant aim.present pairs g s) aim.goals h in
      let f : StepFound plant aim.present s.state pairs (λ b. not (truth_of b 0 g.item)) = step_found plant aim.present s.state pairs (λ b. not (truth_of b 0 g.item)) g.passes in
      found_step plant aim.present s.state pairs (λ b. not (meets_goals aim.goals b)) f.step (failing_all (truth_of (map value f.step.after) 0) aim.goals g.item g.listed f.ends_so))
      (λ h.
      let f : StepFound plant aim.present s.state pairs (λ b. not (meets_goals aim.goals b)) = step_found plant aim.present s.state pairs (λ b. not (meets_goals aim.goals b)) h in
      let g : Passing (λ (t : Tree). not (truth_of (map value f.step.after) 0 t)) aim.goals =
      some_failing (truth_of (map value f.step.after) 0) aim.goals (denied (meets_goals aim.goals (map value f.step.after)) f.ends_so)
      in
      passing_some (λ (t : Tree). misses_goal plant aim.present pairs t s) aim.goals g.item g.listed (found_step plant aim.present s.state pairs (λ b. not (truth_of b 0 g.item)) f.step g.passes))

  missed_is : (states : List TrackedState) → some_missed plant aim.present pairs aim.goals states ≡ list_any (λ (s : TrackedState). can_miss plant aim s.state pairs) states
  missed_is states =
      some_turned (misses_goal plant aim.present pairs) aim.goals states
      ∙ any_alike (λ (s : TrackedState). list_any (λ (g : Tree). misses_goal plant aim.present pairs g s) aim.goals) (λ (s : TrackedState). can_miss plant aim s.state pairs) states missed_by_goal

pub missed_all : (plant : Plant) (pairs : List Pair) (v : CommandedValue) → v ≡ commanding plant pairs → (aim : Aim) (goals : List Tree) → goals ≡ aim.goals
    → (tracked : List TrackedState) → tracked ≡ aim.tracked → (count : ℕ) → some_missed v.plant aim.present v.pairs goals (take count tracked) ≡ some_can_miss plant aim count pairs
missed_all plant pairs v made aim goals goals_are tracked tracked_are count =
    (λ i. some_missed (made i).plant aim.present (made i).pairs (goals_are i) (take count (tracked_are i))) ∙ missed_is plant aim pairs (take count aim.tracked)
