-- Marks: for each boolean the value that it is taken to have, or none. What a clause says under marks: all its
-- literals are false, or all but one, or more are left.
use Rattle.std.specs.Prelude.{ℕ, Bool, false, not, List, [], ◌∷◌, Option, Some, None, is_none, slice_index_or, slice_set, filter, replicate}
use Rattle.lv_base.specs.declared.ids.Lit.{Lit}
use Rattle.lv_clauses.specs.declared.marks.Finding.{Finding}
use Rattle.lv_clauses.specs.declared.marks.Finding.TheVariants.{AllFalse, Unit, Open}
use Rattle.lv_clauses.specs.Literals.{neg, same_truth}

abbrev pub Marks : Type 0
Marks = List (Option Bool)

-- no boolean is marked
abbrev pub nothing : ℕ → Marks
nothing bools = replicate bools None

abbrev pub mark_is : Option Bool → Bool → Bool
mark_is None sign = false
mark_is (Some value) sign = same_truth value sign

-- the literal is marked as true
abbrev pub is_marked : Marks → Lit → Bool
is_marked marks l = mark_is (slice_index_or marks l.var.0 None) l.sign

-- the marks with the literal true
abbrev pub marked : Marks → Lit → Marks
marked marks l = slice_set marks l.var.0 (Some l.sign)

-- neither the literal nor its negation is marked
abbrev pub is_free : Marks → Lit → Bool
is_free marks l = is_none (slice_index_or marks l.var.0 None)

-- the literals that aren't false
abbrev pub unmet : Marks → List Lit → List Lit
unmet marks c = filter (λ l. not (is_marked marks (neg l))) c

abbrev pub finding_of : List Lit → Finding
finding_of [] = AllFalse
finding_of (l ∷ []) = Unit l
finding_of (l ∷ (m ∷ more)) = Open

-- what the clause says under the marks
abbrev pub look_at : Marks → List Lit → Finding
look_at marks c = finding_of (unmet marks c)
