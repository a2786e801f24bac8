-- 'Some list' as a search that computes.
use Rattle.std.specs.Prelude.{ℕ, zero, suc, Bool, false, ◌||◌, List, [], ◌∷◌}

-- some number below the bound passes
abbrev pub some_below : ℕ → (ℕ → Bool) → Bool
some_below zero p = false
some_below (suc n) p = p n || some_below n p

-- some list passes that has at each place the item of a number below the place's size
abbrev pub some_list : {X : Type 0} → (ℕ → X) → List ℕ → (List X → Bool) → Bool
some_list item [] p = p []
some_list item (n ∷ ns) p = some_below n (λ v. some_list item ns (λ xs. p (item v ∷ xs)))
