-- The controls of a plant are variables of it.
use Rattle.std.proofs.Common.{◌≡◌, ◌+◌, ◌≤◌, ℕ, Bool, true, false, if◌then◌else◌, List, [], ◌∷◌, length, slice_get, Option, Some, None, arith, All}
use Rattle.std.specs.Option.{option_map_or}
use Rattle.std.specs.List.{flat_map}
use Rattle.std.proofs.lemmas.List.Elements.{All-cons, All-append, All-tail}
use Rattle.lv_model.specs.declared.plant.Plant.{Plant}
use Rattle.lv_model.specs.declared.plant.ComponentType.{ComponentType}
use Rattle.lv_model.specs.declared.plant.Variable.{Variable}
use Rattle.lv_model.specs.declared.plant.Part.{Part}
use Rattle.lv_model.specs.Lists.{is_control, controls_from, part_controls, controls, type_width, variable_count, IsVariable}
use Rattle.lv_model.specs.WellFormed.{is_well_formed, PartEnds}
use Rattle.lv_model.proofs.Reading.{ends-of_well_formed}

among_variables : (bound first : ℕ) (vs : List Variable) → first + length vs ≤ bound → All (IsVariable bound) (controls_from first vs)
among_variables bound first [] within = λ k d below. absurd (omega arith)
among_variables bound first (v ∷ vs) within = of_class (is_control v.class) (among_variables bound (first + 1) vs (omega arith))
  where
    of_class : (b : Bool) → All (IsVariable bound) (controls_from (first + 1) vs)
        → All (IsVariable bound) (if b then record { 0 = first } ∷ controls_from (first + 1) vs else controls_from (first + 1) vs)
    of_class true rest = All-cons (IsVariable bound) (record { 0 = first }) (controls_from (first + 1) vs) (record { below = omega arith }) rest
    of_class false rest = rest

in_part : (bound first : ℕ) (o : Option ComponentType) → first + option_map_or type_width o 0 ≤ bound
    → All (IsVariable bound) (option_map_or (λ (t : ComponentType). controls_from (first + 1) t.variables) o [])
in_part bound first None within = λ k d below. absurd (omega arith)
in_part bound first (Some t) within = among_variables bound (first + 1) t.variables (omega arith)

in_parts : (bound : ℕ) (types : List ComponentType) (ps : List Part) → All (PartEnds bound types) ps → All (IsVariable bound) (flat_map (part_controls types) ps)
in_parts bound types [] ends = λ k d below. absurd (omega arith)
in_parts bound types (p ∷ ps) ends =
    All-append (IsVariable bound) (part_controls types p) (flat_map (part_controls types) ps)
    (in_part bound p.first.0 (slice_get types p.kind) (ends 0 p (omega arith)).last)
    (in_parts bound types ps (All-tail (PartEnds bound types) p ps ends))

-- each control of a well-formed plant is one of its variables
pub controls-in_range : (plant : Plant) → is_well_formed plant ≡ true → All (IsVariable (variable_count plant)) (controls plant)
controls-in_range plant h = in_parts (variable_count plant) plant.types plant.parts (ends-of_well_formed plant h)
