-- The names of a plant's lists, and what is found by them.
use Rattle.std.specs.Prelude.{ℕ, List, map, position, slice_get, Option}
use Rattle.std.specs.Option.{option_and_then}
use Rattle.lv_model.specs.declared.plant.Plant.{Plant}
use Rattle.lv_model.specs.declared.plant.Domain.{Domain}
use Rattle.lv_model.specs.declared.plant.ComponentType.{ComponentType}
use Rattle.lv_model.specs.declared.plant.Variable.{Variable}
use Rattle.lv_model.specs.declared.plant.Part.{Part}
use Rattle.lv_model.specs.Names.{variable_named}
use Rattle.lv_model_draft.specs.Places.{first_places}
use Rattle.lv_model_draft.specs.declared.directory.Directory.{Directory}
use Rattle.lv_model_draft.specs.Priced.{priced}

-- the first places of the names of a type's variables
abbrev pub variable_places : List Variable → List (List ℕ × ℕ)
variable_places variables = first_places (map (λ (v : Variable). v.name) variables)

-- the first places of the names of the plant's lists, and what its prices are of
abbrev pub names_of : Plant → Directory
names_of plant =
    record {
      domains = first_places (map (λ (d : Domain). d.name) plant.domains);
      types = first_places (map (λ (t : ComponentType). t.name) plant.types);
      parts = first_places (map (λ (p : Part). p.name) plant.parts);
      variables = map (λ (t : ComponentType). variable_places t.variables) plant.types;
      prices = priced plant.prices;
    }

-- the place of a name among the variables of the type at a place
abbrev pub variable_at : List ComponentType → ℕ → List ℕ → Option ℕ
variable_at types kind word = option_and_then (λ (t : ComponentType). position (variable_named word) t.variables) (slice_get types kind)
