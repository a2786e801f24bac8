-- A longer trail leaves no more above, and a turned choice leaves less.
use Rattle.std.proofs.Common.{◌≡◌, ℕ, suc, zero, ◌+◌, ◌*◌, ◌<◌, ◌≤◌, List, [], ◌∷◌, ◌++◌, length, take, get_or, Option, Some, None, refl, ap, arith}
use Rattle.lv_clauses.specs.declared.log.Hint.{Hint}
use Rattle.lv_trail.specs.declared.trail.Entry.{Entry}
use Rattle.std.proofs.Math.Nat.{add-mul}
use Rattle.lv_sat.specs.Measure.{all_above, left_by, above, trails_left}

left_fits : (n : ℕ) (r : Option Hint) → left_by n r ≤ n + 1
left_fits n None = omega arith
left_fits n (Some h) = omega arith

above_fits : (n : ℕ) (entries : List Entry) → above n entries ≤ all_above n
above_fits zero entries = omega arith
above_fits (suc n) [] = omega arith
above_fits (suc n) (e ∷ es) = omega (arith, left_fits (all_above n) e.reason, above_fits n es)

above_none : (n : ℕ) → above n [] ≡ all_above n
above_none zero = refl
above_none (suc n) = refl

pub above_longer : (n : ℕ) (old rest : List Entry) → above n (old ++ rest) ≤ above n old
above_longer zero old rest = omega arith
above_longer (suc n) [] rest = above_fits (suc n) rest
above_longer (suc n) (e ∷ es) rest = omega (arith, above_longer n es rest)

pub above_turned : (n : ℕ) (entries : List Entry) (place : ℕ) (d t : Entry) (h : Hint) → length entries ≤ n → place < length entries → (get_or entries place d).reason ≡ None → t.reason ≡ Some h
    → above n (take place entries ++ t ∷ []) < above n entries
above_turned n [] place d t h size within chosen forced = absurd (omega (arith, within))
above_turned zero (e ∷ es) place d t h size within chosen forced = absurd (omega (arith, size))
above_turned (suc n) (e ∷ es) zero d t h size within chosen forced =
    omega (arith, ap (left_by (all_above n)) forced, ap (left_by (all_above n)) chosen, above_none n)
above_turned (suc n) (e ∷ es) (suc k) d t h size within chosen forced = omega (arith, above_turned n es k d t h (omega (arith, size)) (omega (arith, within)) chosen forced)

-- what is taken back leaves any trail once more, and one time less
pub fewer_times : (n old new : ℕ) (entries left : List Entry) → old ≡ new + 1 → trails_left n new left ≤ trails_left n old entries
fewer_times n old new entries left e =
    omega (arith, ap (λ k. k * (all_above n + 1)) e, add-mul new 1 (all_above n + 1), above_fits n left)
