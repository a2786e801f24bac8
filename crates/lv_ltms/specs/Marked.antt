-- The literals that are marked, as a list.
use Rattle.std.specs.Prelude.{ℕ, ◌+◌, List, [], ◌∷◌, Some, None}
use Rattle.lv_base.specs.declared.ids.Lit.{Lit}
use Rattle.lv_clauses.specs.Marks.{Marks}

-- the literals marked, where the first mark is of this boolean
abbrev pub literals_from : ℕ → Marks → List Lit
literals_from first [] = []
literals_from first (None ∷ marks) = literals_from (first + 1) marks
literals_from first (Some sign ∷ marks) = record { var = record { 0 = first }; sign = sign } ∷ literals_from (first + 1) marks
