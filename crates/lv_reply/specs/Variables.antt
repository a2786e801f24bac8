-- Variables and their values by the names of the plant.
use Rattle.std.specs.Prelude.{ℕ, ◌+◌, ◌-◌, ◌≤◌, ◌<◌, Bool, false, not, ◌&&◌, ◌||◌, nat_eq, nat_le, nat_lt, if◌then◌else◌, List, [], ◌++◌, length, slice_get, codes}
use Rattle.std.specs.List.{find}
use Rattle.std.specs.List.Sorted.{IsPartitionPoint}
use Rattle.std.specs.Option.{option_map_or}
use Rattle.lv_model.specs.declared.plant.Plant.{Plant}
use Rattle.lv_model.specs.declared.plant.Domain.{Domain}
use Rattle.lv_model.specs.declared.plant.ComponentType.{ComponentType}
use Rattle.lv_model.specs.declared.plant.Variable.{Variable}
use Rattle.lv_model.specs.declared.plant.Part.{Part}
use Rattle.lv_model.specs.Lists.{part_width}
use Rattle.lv_reply.specs.Pieces.{name_at}

-- the name of a type's n-th variable, of which the mode is the first
abbrev pub own_name : ComponentType → ℕ → List ℕ
own_name t n = if nat_eq n 0 then codes "mode" else option_map_or (λ (v : Variable). v.name) (slice_get t.variables (n - 1)) []

-- the names of the values of a domain
abbrev pub names_of_values : List Domain → ℕ → List (List ℕ)
names_of_values domains d = option_map_or (λ (x : Domain). x.values) (slice_get domains d) []

-- the names of the values of a type's n-th variable: those of the mode are the modes
abbrev pub own_values : List Domain → ComponentType → ℕ → List (List ℕ)
own_values domains t n =
    if nat_eq n 0 then t.modes else option_map_or (λ (v : Variable). names_of_values domains v.domain) (slice_get t.variables (n - 1)) []

-- a value of a type's n-th variable, as `cmd=open`, with this sign between
abbrev pub own_equation : List Domain → List ℕ → ComponentType → ℕ → ℕ → List ℕ
own_equation domains sign t n value = own_name t n ++ sign ++ name_at (own_values domains t n) value

-- whether the part's variables begin at or before this one, or behind it
abbrev pub begins_by : ℕ → Part → Type 0
begins_by x p = p.first.0 ≤ x

abbrev pub begins_behind : ℕ → Part → Type 0
begins_behind x p = x < p.first.0

-- just the first so many parts begin at or before this variable
pub record AreBegun (x : ℕ) (parts : List Part) (n : ℕ) : Type 0 where
  pub place : IsPartitionPoint (begins_by x) (begins_behind x) parts n
  pub few : n ≤ length parts

-- whether there is a part at this place, and it begins at or before this variable
abbrev pub begins_at : List Part → ℕ → ℕ → Bool
begins_at parts x place = option_map_or (λ (p : Part). nat_le p.first.0 x) (slice_get parts place) false

-- whether the last of so many parts begins at or before this variable, and the one behind them doesn't
abbrev pub ends_there : List Part → ℕ → ℕ → Bool
ends_there parts x n = (nat_eq n 0 || begins_at parts x (n - 1)) && not (begins_at parts x n)

-- whether the variable of this number is the part's
abbrev pub has_variable : List ComponentType → ℕ → Part → Bool
has_variable types x p = nat_le p.first.0 x && nat_lt x (p.first.0 + part_width types p)

-- the same of a variable of the part
abbrev pub part_equation : Plant → List ℕ → ℕ → ℕ → Part → List ℕ
part_equation plant sign x value p =
    p.name ++ codes "." ++ option_map_or (λ (t : ComponentType). own_equation plant.domains sign t (x - p.first.0) value) (slice_get plant.types p.kind) []

-- a value of a variable of the plant, as `v.cmd=open`, with this sign between; nothing where there is no such variable
abbrev pub equation : Plant → List ℕ → ℕ → ℕ → List ℕ
equation plant sign x value = option_map_or (part_equation plant sign x value) (find (has_variable plant.types x) plant.parts) []

-- a value that a control is set to, as `v.cmd=open`
abbrev pub setting_text : Plant → ℕ → ℕ → List ℕ
setting_text plant x value = equation plant (codes "=") x value
