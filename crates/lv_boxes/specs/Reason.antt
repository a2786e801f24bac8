-- The reason why choices can't stand together: what is left of them when each that isn't needed is left out.
use Rattle.std.specs.Prelude.{Bool, List, [], ◌∷◌, ◌++◌, if◌then◌else◌}
use Rattle.lv_base.specs.declared.search.Pair.{Pair}

-- of pairs of which the first ones are to be kept: each other one, in its turn, is left out where the rest is still not possible
abbrev pub reduced : (List Pair → Bool) → List Pair → List Pair → List Pair
reduced possible before [] = before
reduced possible before (p ∷ ps) = (if possible (before ++ ps) then reduced possible (before ++ (p ∷ [])) ps else reduced possible before ps)
