-- Why the search ends: read as digits, 1 for a choice and 2 for what is forced, trails of at most so many entries only
-- rise; what is left below the greatest falls. Only where all choices are taken back it rises again, and that so many
-- times at most.
use Rattle.std.specs.Prelude.{ℕ, suc, zero, ◌+◌, ◌*◌, List, [], ◌∷◌, Option, Some, None}
use Rattle.lv_clauses.specs.declared.log.Hint.{Hint}
use Rattle.lv_trail.specs.declared.trail.Entry.{Entry}

-- the numbers above that of the empty trail
abbrev pub all_above : ℕ → ℕ
all_above zero = 0
all_above (suc n) = all_above n + all_above n + all_above n + 2

-- what an entry leaves of this many below it
abbrev pub left_by : ℕ → Option Hint → ℕ
left_by below None = below + 1
left_by below (Some h) = 0

-- the numbers above that of the trail
abbrev pub above : ℕ → List Entry → ℕ
above zero entries = 0
above (suc n) [] = all_above (suc n)
above (suc n) (e ∷ es) = left_by (all_above n) e.reason + above n es

-- and once all choices are taken back so many times, any of them anew each time
abbrev pub trails_left : ℕ → ℕ → List Entry → ℕ
trails_left n times entries = times * (all_above n + 1) + above n entries
