-- A move of each part has a target, by which zones are split.
use Rattle.std.proofs.Common.{◌≡◌, ℕ, true, nat_lt, List, [], ◌∷◌, length, Option, Some, None, slice_get, refl, ◌∙◌, ap}
use Rattle.std.specs.Prelude.{map}
use Rattle.std.specs.Option.{option_map_or}
use Rattle.std.proofs.lemmas.Bool.{and_parts, and_from}
use Rattle.std.proofs.lemmas.List.{length-map}
use Rattle.lv_cert_meaning.specs.lv_model.declared.plant.Plant.{Plant}
use Rattle.lv_cert_meaning.specs.lv_model.declared.plant.ComponentType.{ComponentType}
use Rattle.lv_cert_meaning.specs.lv_model.declared.plant.Part.{Part}
use Rattle.lv_cert_meaning.specs.lv_model.declared.plant.Move.{Move}
use Rattle.lv_cert_meaning.specs.lv_model.Lists.{part_moves, move_counts}
use Rattle.lv_cert_meaning.specs.lv_boxes.Groups.{are_grouped}
use Rattle.lv_cert_meaning.specs.lv_meaning.PossibleLaws.{are_below}
use Rattle.lv_cert_meaning.specs.lv_meaning.Targets.{move_targets, targets_of_moves}

-- a move of each part has a group
moves_counted : (types : List ComponentType) (p : Part) → length (move_targets types p) ≡ part_moves types p
moves_counted types p = by (slice_get types p.kind)
  where
    by : (o : Option ComponentType) → length (map (λ (m : Move). m.target.0) (option_map_or (λ (t : ComponentType). t.moves) o [])) ≡ option_map_or (λ (t : ComponentType). length t.moves) o 0
    by None = refl
    by (Some t) = length-map t.moves (λ (m : Move). m.target.0)

each_grouped : (types : List ComponentType) (ps : List Part) (cs : List ℕ) → are_below (map (part_moves types) ps) cs ≡ true → are_grouped (map (move_targets types) ps) cs ≡ true
each_grouped types [] [] h = refl
each_grouped types [] (c ∷ cs) h = absurd (cc h)
each_grouped types (p ∷ ps) [] h = absurd (cc h)
each_grouped types (p ∷ ps) (c ∷ cs) h =
    let two = and_parts (nat_lt c (part_moves types p)) (are_below (map (part_moves types) ps) cs) h in
    and_from (nat_lt c (length (move_targets types p))) (are_grouped (map (move_targets types) ps) cs) (ap (nat_lt c) (moves_counted types p) ∙ two.0) (each_grouped types ps cs two.1)

pub moves_are_grouped : (plant : Plant) (cs : List ℕ) → are_below (move_counts plant) cs ≡ true → are_grouped (targets_of_moves plant) cs ≡ true
moves_are_grouped plant cs h = each_grouped plant.types plant.parts cs h
