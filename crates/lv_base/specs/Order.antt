-- The order of lists of numbers that compares them place by place.
use Rattle.std.specs.Prelude.{ℕ, Bool, true, false, ◌==◌, nat_lt, ◌&&◌, ◌||◌, List, [], ◌∷◌}

-- at the first place where they differ the first list has the smaller number, or it ends there
abbrev pub comes_before : List ℕ → List ℕ → Bool
comes_before [] [] = false
comes_before [] (y ∷ ys) = true
comes_before (x ∷ xs) [] = false
comes_before (x ∷ xs) (y ∷ ys) = nat_lt x y || (x == y && comes_before xs ys)
