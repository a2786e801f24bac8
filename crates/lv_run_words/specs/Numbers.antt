-- The numbers of generated texts, as words.
use Rattle.std.specs.Prelude.{ℕ, ◌||◌, not, nat_eq, nat_lt, List, length, Option, None, Some, option_and_then, if◌then◌else◌}
use Rattle.std.specs.List.{list_all}
use Rattle.lv_text.specs.Bytes.{is_digit}
use Rattle.lv_text.specs.Numbers.{number_in_range}
use Rattle.lv_run_words.specs.declared.numbers.TheConstants.{LARGEST}

-- a number from 1 to the largest
abbrev pub in_limits : ℕ → Option ℕ
in_limits n = if nat_eq n 0 || nat_lt LARGEST n then None else Some n

-- the number that a word of decimal digits is, where it is within its limits; it may begin with zeros
abbrev pub number_of : List ℕ → Option ℕ
number_of word =
    if nat_eq (length word) 0 || not (list_all is_digit word) then None else option_and_then in_limits (number_in_range word)
