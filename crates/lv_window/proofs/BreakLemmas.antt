-- The conflicts between neighbouring moves, move by move and part by part.
use Rattle.std.proofs.Common.{◌≡◌, ℕ, ◌+◌, ◌<◌, ◌≤◌, List, ◌∷◌, ◌++◌, length, drop, get_or, append-nil, sym, ap, ap₂, ◌∙◌, arith}
use Rattle.std.proofs.lemmas.List.{drop_more, drop_all}
use Rattle.lv_base.specs.declared.search.Pair.{Pair}
use Rattle.lv_model.specs.declared.plant.ComponentType.{ComponentType}
use Rattle.lv_model.specs.declared.plant.Part.{Part}
use Rattle.lv_model.specs.declared.plant.Move.{Move}
use Rattle.lv_meaning.specs.Candidates.{type_moves}
use Rattle.lv_window.specs.Joints.{breaks, breaks_of, joints_of, part_joints}
use Rattle.lv_window.proofs.StepLemmas.{regroup}

-- the element at this place, and those behind it
split_at : {X : Type 0} → (xs : List X) (i : ℕ) (x : X) → i < length xs → x ≡ get_or xs i x → drop i xs ≡ x ∷ drop (i + 1) xs
split_at xs i x within at = drop_more xs i x within ∙ ap (λ y. y ∷ drop (i + 1) xs) (sym at)

module _ (slot behind : ℕ) where
  pub breaks_more : (n : ℕ) (m : Move) (ms : List Move) (i : ℕ) (l : Move) (before after whole : List (List Pair)) → i < length ms → l ≡ get_or ms i l
      → before ++ breaks_of slot behind n m i (drop i ms) ≡ whole → after ≡ before ++ breaks slot behind n m i l → after ++ breaks_of slot behind n m (i + 1) (drop (i + 1) ms) ≡ whole
  breaks_more n m ms i l before after whole within at so_far is =
      regroup before (breaks slot behind n m i l) (breaks_of slot behind n m (i + 1) (drop (i + 1) ms)) after whole
      (ap (λ (xs : List Move). before ++ breaks_of slot behind n m i xs) (sym (split_at ms i l within at)) ∙ so_far) is

  pub breaks_done : (n : ℕ) (m : Move) (ms : List Move) (i : ℕ) (before whole : List (List Pair)) → length ms ≤ i → before ++ breaks_of slot behind n m i (drop i ms) ≡ whole → before ≡ whole
  breaks_done n m ms i before whole end so_far =
      sym (append-nil before) ∙ ap (λ (xs : List Move). before ++ breaks_of slot behind n m i xs) (sym (drop_all i ms end)) ∙ so_far

  pub joints_more : (all ms : List Move) (i : ℕ) (m : Move) (before after whole : List (List Pair)) → i < length ms → m ≡ get_or ms i m
      → before ++ joints_of slot behind i (drop i ms) all ≡ whole → after ≡ before ++ breaks_of slot behind i m 0 all → after ++ joints_of slot behind (i + 1) (drop (i + 1) ms) all ≡ whole
  joints_more all ms i m before after whole within at so_far is =
      regroup before (breaks_of slot behind i m 0 all) (joints_of slot behind (i + 1) (drop (i + 1) ms) all) after whole
      (ap (λ (xs : List Move). before ++ joints_of slot behind i xs all) (sym (split_at ms i m within at)) ∙ so_far) is

  pub joints_ended : (all ms : List Move) (i : ℕ) (before whole : List (List Pair)) → length ms ≤ i → before ++ joints_of slot behind i (drop i ms) all ≡ whole → before ≡ whole
  joints_ended all ms i before whole end so_far =
      sym (append-nil before) ∙ ap (λ (xs : List Move). before ++ joints_of slot behind i xs all) (sym (drop_all i ms end)) ∙ so_far

module _ (types : List ComponentType) (slot behind : ℕ) where
  pub parts_begin : (ps : List Part) (before whole : List (List Pair)) → before ++ part_joints types slot behind ps ≡ whole → before ++ part_joints types (slot + 0) (behind + 0) ps ≡ whole
  parts_begin ps before whole all =
      let one : slot + 0 ≡ slot = omega arith in
      let other : behind + 0 ≡ behind = omega arith in
      ap₂ (λ (s b : ℕ). before ++ part_joints types s b ps) one other ∙ all

  pub parts_more : (ps : List Part) (i : ℕ) (p : Part) (before after whole : List (List Pair)) → i < length ps → p ≡ get_or ps i p
      → before ++ part_joints types (slot + i) (behind + i) (drop i ps) ≡ whole → after ≡ before ++ joints_of (slot + i) (behind + i) 0 (type_moves types p) (type_moves types p)
      → after ++ part_joints types (slot + (i + 1)) (behind + (i + 1)) (drop (i + 1) ps) ≡ whole
  parts_more ps i p before after whole within at so_far is =
      let one : slot + (i + 1) ≡ slot + i + 1 = omega arith in
      let other : behind + (i + 1) ≡ behind + i + 1 = omega arith in
      ap₂ (λ (s b : ℕ). after ++ part_joints types s b (drop (i + 1) ps)) one other
      ∙ regroup before (joints_of (slot + i) (behind + i) 0 (type_moves types p) (type_moves types p)) (part_joints types (slot + i + 1) (behind + i + 1) (drop (i + 1) ps)) after whole
      (ap (λ (xs : List Part). before ++ part_joints types (slot + i) (behind + i) xs) (sym (split_at ps i p within at)) ∙ so_far) is

  pub parts_done : (ps : List Part) (i : ℕ) (before whole : List (List Pair)) → length ps ≤ i → before ++ part_joints types (slot + i) (behind + i) (drop i ps) ≡ whole → before ≡ whole
  parts_done ps i before whole end so_far =
      sym (append-nil before) ∙ ap (λ (xs : List Part). before ++ part_joints types (slot + i) (behind + i) xs) (sym (drop_all i ps end)) ∙ so_far
