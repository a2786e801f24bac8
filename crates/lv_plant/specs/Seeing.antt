-- What is observed of a plant's step, and the modes that it leads to.
use Rattle.std.specs.Prelude.{ℕ, ◌+◌, Bool, true, false, if◌then◌else◌, List, [], ◌∷◌, ◌++◌, map, take, slice_get, codes, decimal}
use Rattle.std.specs.List.{flat_map}
use Rattle.std.specs.Option.{option_map_or}
use Rattle.lv_base.specs.declared.ids.ValId.{ValId}
use Rattle.lv_base.specs.declared.ids.VarId.{VarId}
use Rattle.lv_model.specs.declared.plant.Plant.{Plant}
use Rattle.lv_model.specs.declared.plant.ComponentType.{ComponentType}
use Rattle.lv_model.specs.declared.plant.Part.{Part}
use Rattle.lv_model.specs.declared.plant.Variable.{Variable}
use Rattle.lv_base.specs.Tree.{value_of}
use Rattle.lv_session.specs.lv_model_names.Names.{is_observable_class}
use Rattle.lv_session.specs.lv_session_request.declared.request.Sighting.{Sighting}
use Rattle.lv_plant.specs.declared.seeing.TheConstants.{SEEN}

-- the observables among variables that are numbered from the first
abbrev pub observables_from : ℕ → List Variable → List VarId
observables_from first [] = []
observables_from first (v ∷ vs) = (if is_observable_class v.class then record { 0 = first } ∷ observables_from (first + 1) vs else observables_from (first + 1) vs)

abbrev pub part_observables : List ComponentType → Part → List VarId
part_observables types p = option_map_or (λ (t : ComponentType). observables_from (p.first.0 + 1) t.variables) (slice_get types p.kind) []

-- the observables of the plant, part by part
abbrev pub observables : Plant → List VarId
observables plant = flat_map (part_observables plant.types) plant.parts

-- the letter of the names of what is observed of a plant step: `o` in odd steps and `e` in even ones
abbrev pub letter : Bool → List ℕ
letter true = codes "o"
letter false = codes "e"

-- what is observed of these variables, under names with this letter, numbered from n on
abbrev pub seen_from : List ℕ → ℕ → List ValId → List VarId → List Sighting
seen_from front n b [] = []
seen_from front n b (x ∷ xs) = record { name = front ++ decimal n; var = x; val = value_of b x.0 } ∷ seen_from front (n + 1) b xs

-- what is observed of a step that ends so: the first observables
abbrev pub seen : Plant → Bool → List ValId → List Sighting
seen plant odd b = seen_from (letter odd) 1 b (take SEEN (observables plant))

-- the mode of each part
abbrev pub modes_in : List Part → List ValId → List ValId
modes_in ps b = map (λ (p : Part). value_of b p.first.0) ps

-- the mode that each part starts in
abbrev pub start_modes : List Part → List ValId
start_modes ps = map (λ (p : Part). p.start) ps
