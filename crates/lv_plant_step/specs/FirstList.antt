-- The first list of values that passes a test: value by value, each the first with which some list still passes.
use Rattle.std.specs.Prelude.{ℕ, zero, suc, ◌+◌, Bool, false, nat_lt, nat_eq, ◌&&◌, ◌||◌, if◌then◌else◌, List, [], ◌∷◌, Option, Some, None}
use Rattle.lv_base.specs.declared.ids.ValId.{ValId}
use Rattle.lv_meaning.specs.Possible.{value}

-- the value, and behind it what was found with it; where nothing was, what is found later
abbrev pub found_or : ℕ → Option (List ValId) → Option (List ValId) → Option (List ValId)
found_or v (Some vs) later = Some (value v ∷ vs)
found_or v None later = later

-- of so many values from v on the first with which something is found, and behind it what that is
abbrev pub first_from : ℕ → ℕ → (ℕ → Option (List ValId)) → Option (List ValId)
first_from zero v found = None
first_from (suc left) v found = found_or v (found v) (first_from left (v + 1) found)

-- of the lists that have at each place a value below the place's size the first that passes
abbrev pub first_list : List ℕ → (List ValId → Bool) → Option (List ValId)
first_list [] passes = if passes [] then Some [] else None
first_list (n ∷ ns) passes = first_from n 0 (λ v. first_list ns (λ vs. passes (value v ∷ vs)))

-- one list comes before another of its length where at the first place at which they differ its value is less
abbrev pub comes_before : List ValId → List ValId → Bool
comes_before [] ys = false
comes_before (x ∷ xs) [] = false
comes_before (x ∷ xs) (y ∷ ys) = nat_lt x.0 y.0 || (nat_eq x.0 y.0 && comes_before xs ys)
