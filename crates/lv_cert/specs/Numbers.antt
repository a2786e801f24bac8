-- Words that spell numbers and literals.
use Rattle.std.specs.Prelude.{ℕ, ◌^◌, List, Bool, drop, length, slice_index, nat_eq, nat_lt, nat_le, not, ◌&&◌, if◌then◌else◌, Option, decimal}
use Rattle.std.specs.declared.option.Option.TheVariants.{Some, None}
use Rattle.std.specs.Str.{bytes_eq}
use Rattle.lv_text.specs.Numbers.{number_value}
use Rattle.lv_cert.specs.declared.line.Literal.{Literal}

-- a number, where it is within the limit
abbrev pub within_limit : ℕ → Option ℕ
within_limit n = if nat_le n (10 ^ 30) then Some n else None

-- a number that is within the limit, spelled as it is printed: without leading zeros
abbrev pub is_number : List ℕ → Bool
is_number w = nat_le (number_value w) (10 ^ 30) && bytes_eq w (decimal (number_value w))

-- a number within the limit that is not 0
abbrev pub is_positive : List ℕ → Bool
is_positive w = is_number w && nat_lt 0 (number_value w)

-- the word begins with a minus sign
abbrev pub is_negated : List ℕ → Bool
is_negated w = not (nat_eq (length w) 0) && nat_eq (slice_index w 0) 45

-- the word without a minus sign in front
abbrev pub magnitude : List ℕ → List ℕ
magnitude w = if is_negated w then drop 1 w else w

-- a number that is not 0, maybe with a minus sign in front
abbrev pub is_literal : List ℕ → Bool
is_literal w = is_positive (magnitude w)

abbrev pub literal_value : List ℕ → Literal
literal_value w = record { negated = is_negated w; number = number_value (magnitude w) }
