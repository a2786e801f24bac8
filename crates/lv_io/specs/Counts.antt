-- The two counts of faults that a shelf keeps.
use Rattle.std.specs.Prelude.{ℕ, ◌+◌, min}
use Rattle.lv_io.specs.declared.Role.{Role}
use Rattle.lv_io.specs.declared.Role.TheVariants.{Model, Second}
use Rattle.lv_io.specs.declared.shelf_log.Counts.{Counts}
use Rattle.lv_io.specs.Limits.{last_count}

-- the count of a role
abbrev pub count_of : Counts → Role → ℕ
count_of counts Model = counts.model
count_of counts Second = counts.second

-- one more, up to the last count
abbrev pub one_more : ℕ → ℕ
one_more n = min (n + 1) last_count

-- the counts after a fault of a role
abbrev pub raised : Role → Counts → Counts
raised Model counts = record counts { model = one_more counts.model }
raised Second counts = record counts { second = one_more counts.second }
