-- Which values of which controls have a price.
use Rattle.std.specs.Prelude.{ℕ, Bool, nat_eq, ◌&&◌, List, [], ◌∷◌, ◌++◌, if◌then◌else◌}
use Rattle.std.specs.List.{list_any}
use Rattle.lv_model.specs.declared.plant.Price.{Price}

abbrev pub has_pair : ℕ → ℕ → List (ℕ × ℕ) → Bool
has_pair control value pairs = list_any (λ (p : ℕ × ℕ). nat_eq control p.0 && nat_eq value p.1) pairs

-- with one more pair, unless it is there
abbrev pub with_pair : List (ℕ × ℕ) → ℕ → ℕ → List (ℕ × ℕ)
with_pair pairs control value = if has_pair control value pairs then pairs else pairs ++ (control, value) ∷ []

-- with what each of the prices is of
abbrev pub with_prices : List (ℕ × ℕ) → List Price → List (ℕ × ℕ)
with_prices pairs [] = pairs
with_prices pairs (p ∷ ps) = with_prices (with_pair pairs p.control.0 p.value.0) ps

-- what the prices are of
abbrev pub priced : List Price → List (ℕ × ℕ)
priced prices = with_prices [] prices
