-- One step of a window after the other: its slots, its masks, its joints.
use Rattle.std.proofs.Common.{◌≡◌, ℕ, zero, suc, ◌+◌, ◌-◌, ◌<◌, ◌≤◌, List, [], ◌∷◌, ◌++◌, length, map, append_assoc, append-nil, refl, sym, ap, ap₂, ◌∙◌, arith}
use Rattle.std.proofs.lemmas.List.{length-map, length-append}
use Rattle.lv_base.specs.declared.ids.Cost.{Cost}
use Rattle.lv_base.specs.declared.search.Pair.{Pair}
use Rattle.lv_boxes.specs.Members.{ZoneValue}
use Rattle.lv_model.specs.declared.plant.Plant.{Plant}
use Rattle.lv_model.specs.declared.plant.Part.{Part}
use Rattle.lv_model.specs.declared.state.TrackedState.{TrackedState}
use Rattle.lv_search_zones.specs.Moves.{part_costs, move_slots, zones_from}
use Rattle.lv_window.specs.Joints.{window_slots, any_move, free_masks, window_zones, part_joints, joints_from}
use Rattle.lv_window.specs.Longer.{all_longer}

module _ {X : Type 0} where
  pub regroup : (out own rest after whole : List X) → out ++ (own ++ rest) ≡ whole → after ≡ out ++ own → after ++ rest ≡ whole
  regroup out own rest after whole so_far is = ap (λ (xs : List X). xs ++ rest) is ∙ append_assoc out own rest ∙ so_far

module _ (plant : Plant) where
  pub slots_next : (left : ℕ) (grid after whole : List (List Cost)) → 0 < left → grid ++ window_slots plant left ≡ whole → after ≡ grid ++ move_slots plant → after ++ window_slots plant (left - 1) ≡ whole
  slots_next zero grid after whole more so_far is = absurd (omega (arith, more))
  slots_next (suc n) grid after whole more so_far is =
      let left : suc n - 1 ≡ n = omega arith in
      ap (λ (k : ℕ). after ++ window_slots plant k) left ∙ regroup grid (move_slots plant) (window_slots plant n) after whole so_far is

  pub slots_done : (left : ℕ) (grid whole : List (List Cost)) → left ≤ 0 → grid ++ window_slots plant left ≡ whole → grid ≡ whole
  slots_done zero grid whole done so_far = sym (append-nil grid) ∙ so_far
  slots_done (suc n) grid whole done so_far = absurd (omega (arith, done))

  -- a step has few slots
  pub few_slots : length plant.parts ≤ 256 → (own : List (List Cost)) → own ≡ move_slots plant → length own ≤ 256
  few_slots few own is =
      let same : length own ≡ length (move_slots plant) = ap (λ (ss : List (List Cost)). length ss) is in
      let many : length (move_slots plant) ≡ length plant.parts = length-map plant.parts (part_costs plant.types) in
      omega (arith, same, many, few)

  pub more_slots : length plant.parts ≤ 256 → (grid own after : List (List Cost)) → own ≡ move_slots plant → after ≡ grid ++ own → length after ≤ length grid + 256
  more_slots few grid own after is made =
      let some = few_slots few own is in
      let same : length after ≡ length (grid ++ own) = ap (λ (ss : List (List Cost)). length ss) made in
      let both : length (grid ++ own) ≡ length grid + length own = length-append grid own in
      omega (arith, some, same, both)

  abbrev own_masks : List ℕ
  own_masks = map (λ (p : Part). any_move) plant.parts

  pub masks_next : (left : ℕ) (masks after whole : List ℕ) → 0 < left → masks ++ free_masks plant left ≡ whole → after ≡ masks ++ own_masks → after ++ free_masks plant (left - 1) ≡ whole
  masks_next zero masks after whole more so_far is = absurd (omega (arith, more))
  masks_next (suc n) masks after whole more so_far is =
      let left : suc n - 1 ≡ n = omega arith in
      ap (λ (k : ℕ). after ++ free_masks plant k) left ∙ regroup masks own_masks (free_masks plant n) after whole so_far is

  pub masks_done : (left : ℕ) (masks whole : List ℕ) → left ≤ 0 → masks ++ free_masks plant left ≡ whole → masks ≡ whole
  masks_done zero masks whole done so_far = sym (append-nil masks) ∙ so_far
  masks_done (suc n) masks whole done so_far = absurd (omega (arith, done))

  pub joints_next : (left slot : ℕ) (out after whole : List (List Pair)) → 0 < left → out ++ joints_from plant slot left ≡ whole
      → after ≡ out ++ part_joints plant.types slot (slot + length plant.parts) plant.parts → after ++ joints_from plant (slot + length plant.parts) (left - 1) ≡ whole
  joints_next zero slot out after whole more so_far is = absurd (omega (arith, more))
  joints_next (suc n) slot out after whole more so_far is =
      let left : suc n - 1 ≡ n = omega arith in
      ap (λ (k : ℕ). after ++ joints_from plant (slot + length plant.parts) k) left
      ∙ regroup out (part_joints plant.types slot (slot + length plant.parts) plant.parts) (joints_from plant (slot + length plant.parts) n) after whole so_far is

  pub joints_on : (left slot behind : ℕ) (out after whole : List (List Pair)) → 0 < left → behind ≡ slot + length plant.parts → out ++ joints_from plant slot left ≡ whole
      → after ≡ out ++ part_joints plant.types slot (slot + length plant.parts) plant.parts → after ++ joints_from plant behind (left - 1) ≡ whole
  joints_on left slot behind out after whole more at so_far is = ap (λ (n : ℕ). after ++ joints_from plant n (left - 1)) at ∙ joints_next left slot out after whole more so_far is

  pub joints_done : (left slot : ℕ) (out whole : List (List Pair)) → left ≤ 0 → out ++ joints_from plant slot left ≡ whole → out ≡ whole
  joints_done zero slot out whole done so_far = sym (append-nil out) ∙ so_far
  joints_done (suc n) slot out whole done so_far = absurd (omega (arith, done))

  -- the zones of the first step with masks for the later ones behind
  pub zones_are_longer : (later place : ℕ) (ss : List TrackedState) → all_longer (free_masks plant later) (zones_from plant place ss) ≡ window_zones plant later place ss
  zones_are_longer later place [] = refl
  zones_are_longer later place (s ∷ ss) = ap₂ (λ (z : ZoneValue) (zs : List ZoneValue). z ∷ zs) refl (zones_are_longer later (place + 1) ss)
