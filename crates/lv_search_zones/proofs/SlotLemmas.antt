-- The moves of each part of a well-formed plant make a slot.
use Rattle.std.proofs.Common.{◌≡◌, ℕ, ◌≤◌, true, false, nat_eq, nat_lt, nat_le, ◌&&◌, List, [], ◌∷◌, length, Option, Some, None, slice_get, count_by, All, refl, arith}
use Rattle.std.specs.Option.{option_map_or}
use Rattle.std.specs.List.{list_all}
use Rattle.std.proofs.lemmas.Bool.{and_parts}
use Rattle.std.proofs.lemmas.List.{length-map}
use Rattle.std.proofs.lemmas.List.Elements.{All-cons, All-tail}
use borrow.Author.Tests.{leb-true}
use Rattle.lv_base.specs.declared.limits.TheConstants.{MODES, MOVES}
use Rattle.lv_base.specs.declared.ids.Cost.{Cost}
use Rattle.lv_boxes.specs.Members.{IsSlot}
use Rattle.lv_model.specs.declared.plant.Plant.{Plant}
use Rattle.lv_model.specs.declared.plant.Domain.{Domain}
use Rattle.lv_model.specs.declared.plant.ComponentType.{ComponentType}
use Rattle.lv_model.specs.declared.plant.Part.{Part}
use Rattle.lv_model.specs.declared.plant.Move.{Move}
use Rattle.lv_model.specs.Ranges.{type_ranges}
use Rattle.lv_model.specs.WellFormed.{name_fits, is_within, names_fit, counts_fit, formulas_fit, moves_fit, move_fits, moves_rise, is_stay_of, stays_once, type_fits, part_fits, is_well_formed, MoveIsCheap, TypeIsSmall}
use Rattle.lv_model.proofs.Reading.{All-of_test, All-at, type_of_place, types_pass, parts_pass}
use Rattle.lv_model.proofs.Sizes.{small-types}
use Rattle.lv_search_zones.specs.Moves.{costs_of}
use Rattle.lv_search_zones.specs.Slots.{HasSlot}

cheap_costs : (ms : List Move) → All MoveIsCheap ms → All (λ (cost : Cost). cost.0 ≤ 1000000) (costs_of ms)
cheap_costs [] h = λ k d below. absurd (omega arith)
cheap_costs (m ∷ ms) h = All-cons (λ (cost : Cost). cost.0 ≤ 1000000) m.cost (costs_of ms) ((h 0 m (omega arith)).cost) (cheap_costs ms (All-tail MoveIsCheap m ms h))

-- a mode has a stay, so there is a move
some_moves : (modes : List (List ℕ)) (ms : List Move) → stays_once 0 modes ms ≡ true → 1 ≤ length modes → 1 ≤ length ms
some_moves [] ms h some = absurd (omega (arith, some))
some_moves (mode ∷ modes) [] h some = absurd (cc (and_parts (nat_eq (count_by (is_stay_of 0) []) 1) (stays_once 1 modes []) h).0)
some_moves (mode ∷ modes) (m ∷ ms) h some = omega arith

slot_of_moves : (ms : List Move) → 1 ≤ length ms → length ms ≤ MOVES → All MoveIsCheap ms → IsSlot (costs_of ms)
slot_of_moves ms some few cheap =
    let same : length (costs_of ms) ≡ length ms = length-map ms (λ (m : Move). m.cost) in
    record { some = omega (arith, some, same); few = omega (arith, few, same); cheap = cheap_costs ms cheap }

slot_of_type : (domains : List Domain) (kind : ℕ) (t : ComponentType) → type_fits domains kind t ≡ true → TypeIsSmall t → IsSlot (costs_of t.moves)
slot_of_type domains kind t fits small =
    let counts = (and_parts (names_fit (length domains) t) (counts_fit t) (and_parts (names_fit (length domains) t && counts_fit t) _ fits).0).1 in
    let modes = (and_parts (is_within 1 (length t.modes) MODES) (nat_le (length t.moves) MOVES) counts).0 in
    let some_modes : 1 ≤ length t.modes = leb-true 1 (length t.modes) (and_parts (nat_le 1 (length t.modes)) (nat_le (length t.modes) MODES) modes).0 in
    let ranges = type_ranges domains kind t in
    let moves = (and_parts (formulas_fit ranges t) (moves_fit ranges t) (and_parts (names_fit (length domains) t && counts_fit t) _ fits).1).1 in
    let stays = (and_parts (moves_rise 0 0 t.moves) (stays_once 0 t.modes t.moves) (and_parts (list_all (move_fits ranges (length t.modes)) t.moves) _ moves).1).1 in
    slot_of_moves t.moves (some_moves t.modes t.moves stays some_modes) small.moves small.costs

module _ (plant : Plant) (h : is_well_formed plant ≡ true) where
  slot_of_part : (p : Part) → part_fits plant.types p ≡ true → HasSlot plant.types p
  slot_of_part p fits = record { slot = by (slice_get plant.types p.kind) refl ((and_parts (name_fits p.name) _ fits).1) }
    where
      by : (o : Option ComponentType) → slice_get plant.types p.kind ≡ o → option_map_or (λ (t : ComponentType). nat_lt p.start.0 (length t.modes)) o false ≡ true
          → IsSlot (costs_of (option_map_or (λ (t : ComponentType). t.moves) o []))
      by None is fits = absurd (cc fits)
      by (Some t) is fits =
          slot_of_type plant.domains p.kind t (type_of_place plant.domains plant.types p.kind t (types_pass plant h) is)
          (All-at TypeIsSmall plant.types p.kind t (small-types plant h) is)

  pub parts_have_slots : All (HasSlot plant.types) plant.parts
  parts_have_slots = All-of_test (part_fits plant.types) (HasSlot plant.types) plant.parts slot_of_part (parts_pass plant h).1
