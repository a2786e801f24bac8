-- Where counts stop.
use Rattle.std.specs.Prelude.{ℕ, ◌-◌, ◌^◌}

-- the last value of 64 bits, at which a count of faults or of calls stays
abbrev pub last_count : ℕ
last_count = 2 ^ 64 - 1
