-- The text of what observations would leave of a diagnosis.
use Rattle.std.specs.Prelude.{ℕ, ◌+◌, ◌-◌, List, [], ◌∷◌, ◌++◌, slice_get, codes, decimal, Option, Some, None}
use Rattle.std.specs.List.{find, flat_map}
use Rattle.std.specs.Option.{option_map_or}
use Rattle.lv_base.specs.declared.ids.VarId.{VarId}
use Rattle.lv_model.specs.declared.plant.Plant.{Plant}
use Rattle.lv_model.specs.declared.plant.ComponentType.{ComponentType}
use Rattle.lv_model.specs.declared.plant.Part.{Part}
use Rattle.lv_reply.specs.declared.probes.Probed.{Probed}
use Rattle.lv_reply.specs.Pieces.{name_at, joined}
use Rattle.lv_reply.specs.Variables.{own_name, own_values, has_variable}

-- a variable of the part, as `v.out`
abbrev pub part_variable : Plant → ℕ → Part → List ℕ
part_variable plant x p = p.name ++ codes "." ++ option_map_or (λ (t : ComponentType). own_name t (x - p.first.0)) (slice_get plant.types p.kind) []

-- a variable of the plant; nothing where there is no such variable
abbrev pub variable_text : Plant → ℕ → List ℕ
variable_text plant x = option_map_or (part_variable plant x) (find (has_variable plant.types x) plant.parts) []

-- the names of the values of a variable of the part
abbrev pub part_values : Plant → ℕ → Part → List (List ℕ)
part_values plant x p = option_map_or (λ (t : ComponentType). own_values plant.domains t (x - p.first.0)) (slice_get plant.types p.kind) []

-- the names of the values of a variable of the plant; none where there is no such variable
abbrev pub value_names : Plant → ℕ → List (List ℕ)
value_names plant x = option_map_or (part_values plant x) (find (has_variable plant.types x) plant.parts) []

-- `V n`
abbrev pub counted : List (List ℕ) → ℕ → ℕ → List ℕ
counted names value number = name_at names value ++ codes " " ++ decimal number

-- so of each value, the first of which has this place among the names
abbrev pub counted_from : List (List ℕ) → ℕ → List ℕ → List (List ℕ)
counted_from names value [] = []
counted_from names value (n ∷ ns) = counted names value n ∷ counted_from names (value + 1) ns

-- `X: V1 n1, V2 n2, ..`
abbrev pub probed_line : Plant → Probed → List ℕ
probed_line plant p = variable_text plant p.var.0 ++ codes ": " ++ joined (counted_from (value_names plant p.var.0) 0 p.numbers) ++ codes "\n"

-- the observable that is best looked at, or `-`
abbrev pub best_text : Plant → Option VarId → List ℕ
best_text plant None = codes "-"
best_text plant (Some x) = variable_text plant x.0

-- `probe N`, a line for each observable, and the best of them
unfoldable pub probe_text : Plant → ℕ → List Probed → Option VarId → List ℕ
probe_text plant listed observables best =
    codes "probe " ++ decimal listed ++ codes "\n" ++ flat_map (probed_line plant) observables ++ codes "best " ++ best_text plant best ++ codes "\n"
