-- How booleans are numbered: one for each value of each variable before the step, then one for each value of each variable
-- after it, then one for each move of each part.
use Rattle.std.specs.Prelude.{◌≡◌, ℕ, ◌+◌, ◌<◌, ◌^◌, Bool, List, [], ◌∷◌, take}
use Rattle.std.specs.List.{sum}
use Rattle.lv_base.specs.declared.ids.Lit.{Lit}
use Rattle.lv_model.specs.declared.plant.Plant.{Plant}
use Rattle.lv_model.specs.Lists.{sizes, move_counts}

-- the booleans of one copy of the variables, each of which has so many values: they stand together, variable by variable
pub record Booleans : Type 0 where
  pub sizes : List ℕ
  pub first : ℕ

abbrev pub literal : ℕ → Bool → Lit
literal n sign = record { var = record { 0 = n }; sign = sign }

-- the boolean that says of variable x that it has value v
abbrev pub value_bool : Booleans → ℕ → ℕ → ℕ
value_bool b x v = b.first + sum (take x b.sizes) + v

abbrev pub value_literal : Booleans → ℕ → ℕ → Bool → Lit
value_literal b x v sign = literal (value_bool b x v) sign

-- of a copy of the plant's variables, from this one on
abbrev pub booleans_from : Plant → ℕ → Booleans
booleans_from plant first = record { sizes = sizes plant; first = first }

-- of the variables before the step
abbrev pub booleans_now : Plant → Booleans
booleans_now plant = record { sizes = sizes plant; first = 0 }

-- of the variables after the step
abbrev pub booleans_next : Plant → Booleans
booleans_next plant = record { sizes = sizes plant; first = sum (sizes plant) }

-- the boolean of the first part's first move
abbrev pub first_choice : Plant → ℕ
first_choice plant = sum (sizes plant) + sum (sizes plant)

-- the boolean that says of the part of this place that it makes its n-th move
abbrev pub choice_bool : Plant → ℕ → ℕ → ℕ
choice_bool plant part n = first_choice plant + sum (take part (move_counts plant)) + n

-- how many booleans there are
abbrev pub bool_count : Plant → ℕ
bool_count plant = first_choice plant + sum (move_counts plant)

-- where the booleans of each variable begin
abbrev pub starts_from : ℕ → List ℕ → List ℕ
starts_from first [] = []
starts_from first (n ∷ ns) = first ∷ starts_from (first + n) ns

-- these do, and all the booleans have numbers in range
pub record AreStarts (first : ℕ) (sizes starts : List ℕ) : Type 0 where
  pub begin : starts ≡ starts_from first sizes
  pub fit : first + sum sizes < 2 ^ 32
