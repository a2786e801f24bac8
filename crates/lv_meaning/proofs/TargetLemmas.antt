-- Leading to one state passes on, and is being of the same groups where these are the targets of moves.
use Rattle.std.proofs.Common.{◌≡◌, ℕ, zero, suc, ◌&&◌, Bool, true, false, nat_eq, List, [], ◌∷◌, map, refl, sym, ◌∙◌, ap, ap₂}
use Rattle.std.specs.Prelude.{Option, Some, None, slice_get, slice_index_or}
use Rattle.std.specs.Option.{option_map, option_map_or, option_and_then}
use Rattle.std.specs.Cmp.Lexicographic.{pointwise}
use Rattle.std.proofs.lemmas.Bool.{and_from, and_parts, eqb-true, eq-eqb}
use Rattle.lv_base.specs.declared.ids.ValId.{ValId}
use Rattle.lv_base.specs.declared.rank.Rank.{Rank}
use Rattle.lv_model.specs.declared.plant.Plant.{Plant}
use Rattle.lv_model.specs.declared.plant.ComponentType.{ComponentType}
use Rattle.lv_model.specs.declared.plant.Move.{Move}
use Rattle.lv_model.specs.declared.plant.Part.{Part}
use Rattle.lv_boxes.specs.WalkLaws.{IsTransitive}
use Rattle.lv_boxes.specs.Groups.{group_of, groups_of, have_same_groups}
use Rattle.lv_meaning.specs.Candidates.{type_moves}
use Rattle.lv_meaning.specs.Targets.{target_mode, target_modes, have_one_target, are_alike, move_targets, targets_of_moves}

abbrev same_modes : List ValId → List ValId → Bool
same_modes xs ys = pointwise (λ (a b : ValId). nat_eq a.0 b.0) xs ys

joined : (xs ys zs : List ValId) → same_modes xs ys ≡ true → same_modes ys zs ≡ true → same_modes xs zs ≡ true
joined [] [] [] h k = refl
joined [] [] (z ∷ zs) h k = absurd (cc k)
joined [] (y ∷ ys) zs h k = absurd (cc h)
joined (x ∷ xs) [] zs h k = absurd (cc h)
joined (x ∷ xs) (y ∷ ys) [] h k = absurd (cc k)
joined (x ∷ xs) (y ∷ ys) (z ∷ zs) h k =
    let one = and_parts (nat_eq x.0 y.0) (same_modes xs ys) h in
    let two = and_parts (nat_eq y.0 z.0) (same_modes ys zs) k in
    and_from (nat_eq x.0 z.0) (same_modes xs zs) (eq-eqb x.0 z.0 (eqb-true x.0 y.0 one.0 ∙ eqb-true y.0 z.0 two.0)) (joined xs ys zs one.1 two.1)

pub targets_join : (plant : Plant) → IsTransitive (have_one_target plant)
targets_join plant r q p h k =
    joined (target_modes plant.types plant.parts r.choices) (target_modes plant.types plant.parts q.choices) (target_modes plant.types plant.parts p.choices) h k

-- with the flag or without it
pub alike_join : (distinct : Bool) (plant : Plant) → IsTransitive (are_alike distinct plant)
alike_join false plant r q p h k = h
alike_join true plant r q p h k = targets_join plant r q p h k

target_at : (moves : List Move) (n : ℕ) → slice_index_or (map (λ (m : Move). m.target.0) moves) n 0 ≡ option_map_or (λ (mode : ℕ). mode) (option_map (λ (m : Move). m.target.0) (slice_get moves n)) 0
target_at [] n = refl
target_at (m ∷ ms) zero = refl
target_at (m ∷ ms) (suc n) = target_at ms n

-- the group of a move is its target mode
group_is_target : (types : List ComponentType) (p : Part) (n : ℕ) → group_of (move_targets types p) n ≡ (target_mode types p n).0
group_is_target types p n = by (slice_get types p.kind)
  where
    by : (t : Option ComponentType)
        → slice_index_or (map (λ (m : Move). m.target.0) (option_map_or (λ (t : ComponentType). t.moves) t [])) n 0
        ≡ option_map_or (λ (mode : ℕ). mode) (option_map (λ (m : Move). m.target.0) (option_and_then (λ (t : ComponentType). slice_get t.moves n) t)) 0
    by None = refl
    by (Some t) = target_at t.moves n

one_target : (types : List ComponentType) (parts : List Part) (cs ds : List ℕ)
    → pointwise (λ (a b : ValId). nat_eq a.0 b.0) (target_modes types parts cs) (target_modes types parts ds)
    ≡ pointwise nat_eq (groups_of (map (move_targets types) parts) cs) (groups_of (map (move_targets types) parts) ds)
one_target types [] cs ds = refl
one_target types (p ∷ ps) [] [] = refl
one_target types (p ∷ ps) [] (d ∷ ds) = refl
one_target types (p ∷ ps) (c ∷ cs) [] = refl
one_target types (p ∷ ps) (c ∷ cs) (d ∷ ds) =
    ap₂ (λ (x y : Bool). x && y) (sym (λ i. nat_eq (group_is_target types p c i) (group_is_target types p d i))) (one_target types ps cs ds)

-- two candidates lead to one state exactly where their moves are of the same groups
pub targets_are_groups : (plant : Plant) (r q : Rank) → have_one_target plant r q ≡ have_same_groups (targets_of_moves plant) r.choices q.choices
targets_are_groups plant r q = one_target plant.types plant.parts r.choices q.choices
