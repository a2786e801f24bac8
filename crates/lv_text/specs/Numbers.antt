-- The value of decimal digits.
use Rattle.std.specs.Prelude.{ℕ, ◌+◌, ◌-◌, ◌*◌, ◌^◌, List, fold, Option, nat_lt, if◌then◌else◌}
use Rattle.std.specs.declared.option.Option.TheVariants.{Some, None}

-- a number and one more digit behind it
abbrev pub with_digit : ℕ → ℕ → ℕ
with_digit n b = n * 10 + (b - 48)

-- the decimal value of a text of digits
abbrev pub number_value : List ℕ → ℕ
number_value text = fold with_digit 0 text

-- a number, where it is below 2 ^ 128
abbrev pub in_range : ℕ → Option ℕ
in_range n = if nat_lt n (2 ^ 128) then Some n else None

-- the value of a text of digits, where it is below 2 ^ 128
abbrev pub number_in_range : List ℕ → Option ℕ
number_in_range text = in_range (number_value text)
