-- A well-formed plant has few booleans.
use Rattle.std.proofs.Common.{◌≡◌, ◌+◌, ◌*◌, ◌≤◌, ℕ, List, [], ◌∷◌, length, map, true, arith, All, sum_by, refl, sym, ap, ◌∙◌}
use Rattle.std.specs.List.{sum}
use Rattle.std.proofs.lemmas.List.Sums.{sum_by-cons}
use Rattle.std.proofs.lemmas.List.{length-map}
use Rattle.std.proofs.lemmas.List.Elements.{All-tail}
use Rattle.lv_base.specs.declared.limits.TheConstants.{PARTS, VARIABLES}
use Rattle.lv_model.specs.declared.plant.Plant.{Plant}
use Rattle.lv_model.specs.declared.plant.Part.{Part}
use Rattle.lv_model.specs.declared.plant.ComponentType.{ComponentType}
use Rattle.lv_model.specs.Lists.{sizes, part_moves, move_counts, variable_count, IsFew}
use Rattle.lv_model.specs.WellFormed.{is_well_formed}
use Rattle.lv_model.proofs.Reading.{few_variables, few-parts}
use Rattle.lv_model.proofs.Sizes.{length-sizes, few-sizes, few-move_counts}

few_sum : (ns : List ℕ) → All IsFew ns → sum ns ≤ 64 * length ns
few_sum [] few = omega arith
few_sum (n ∷ ns) few =
    let rest = few_sum ns (All-tail IsFew n ns few) in
    let one = (few 0 n (omega arith)).few in
    let more = sum_by-cons (λ (x : ℕ). x) n ns in
    omega (arith, rest, one, more)

pub mapped_sum : (types : List ComponentType) (ps : List Part) → sum (map (part_moves types) ps) ≡ sum_by (part_moves types) ps
mapped_sum types [] = refl
mapped_sum types (p ∷ ps) =
    sum_by-cons (λ (x : ℕ). x) (part_moves types p) (map (part_moves types) ps)
    ∙ ap (λ (n : ℕ). part_moves types p + n) (mapped_sum types ps)
    ∙ sym (sum_by-cons (part_moves types) p ps)

module _ (plant : Plant) (h : is_well_formed plant ≡ true) where
  pub few_values : sum (sizes plant) ≤ 262144
  few_values =
      let sum_few = few_sum (sizes plant) (few-sizes plant h) in
      let long = length-sizes plant in
      let few : variable_count plant ≤ VARIABLES = few_variables plant h in
      omega (arith, sum_few, long, few)

  pub few_choices : sum_by (part_moves plant.types) plant.parts ≤ 16384
  few_choices =
      let sum_few = few_sum (move_counts plant) (few-move_counts plant h) in
      let long = length-map plant.parts (part_moves plant.types) in
      let few : length plant.parts ≤ PARTS = few-parts plant h in
      let same = mapped_sum plant.types plant.parts in
      omega (arith, sum_few, long, few, same)
