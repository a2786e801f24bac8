-- Counts of faults over several calls.
use Rattle.std.proofs.Common.{◌≡◌, ◌≢◌, ℕ, ◌≤◌, arith}
use Rattle.lv_io.specs.declared.Role.{Role}
use Rattle.lv_io.specs.declared.Role.TheVariants.{Model, Second}
use Rattle.lv_io.specs.Outside.{Rose}

-- where the count of the call's role is as before, all counts are
pub as_before : (role : Role) (old new : Role → ℕ)
    → new role ≡ old role
    → ((r : Role) → r ≢ role → new r ≡ old r)
    → (r : Role) → new r ≡ old r
as_before Model old new own others Model = own
as_before Model old new own others Second = others Second (λ same. cc)
as_before Second old new own others Model = others Model (λ same. cc)
as_before Second old new own others Second = own

-- a count that rose in one call has risen after every later call
pub rose_before : (old middle new : ℕ) → Rose old middle → middle ≤ new → Rose old new
rose_before old middle new rose later = record {
  falls_not = omega (arith, rose.falls_not);
  rises = grind (arith, rose.falls_not, rose.rises);
}

-- a count that rose in a later call has risen since the first
pub rose_after : (old middle new : ℕ) → old ≤ middle → Rose middle new → Rose old new
rose_after old middle new earlier rose = record {
  falls_not = omega (arith, rose.falls_not);
  rises = grind (arith, rose.rises);
}
