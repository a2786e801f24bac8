-- What it costs to command a control.
use Rattle.std.specs.Prelude.{ℕ, Bool, nat_eq, ◌&&◌, if◌then◌else◌}
use Rattle.std.specs.List.{find}
use Rattle.std.specs.Option.{option_map_or}
use Rattle.lv_model.specs.declared.plant.Plant.{Plant}
use Rattle.lv_model.specs.declared.plant.Price.{Price}

-- the price is of this value of this control
abbrev pub is_price_of : ℕ → ℕ → Price → Bool
is_price_of control value p = nat_eq p.control.0 control && nat_eq p.value.0 value

-- a control's resting value, its first, costs nothing; every other one what its price says, or 1
abbrev pub price_of : Plant → ℕ → ℕ → ℕ
price_of plant control value = if nat_eq value 0 then 0 else option_map_or (λ (p : Price). p.cost.0) (find (is_price_of control value) plant.prices) 1
