-- Literals, lists of them that are clauses, and what they say of values. A value of a boolean past the end of a list
-- of values is false.
use Rattle.std.specs.Prelude.{ℕ, Bool, true, false, not, nat_lt, nat_eq, ◌&&◌, List, [], ◌∷◌, slice_index_or, if◌then◌else◌}
use Rattle.std.specs.List.{list_all, list_any}
use Rattle.lv_base.specs.declared.ids.Lit.{Lit}

-- the literal of the same boolean and the other sign
abbrev pub neg : Lit → Lit
neg l = record { var = l.var; sign = not l.sign }

-- two booleans' truth values are equal
abbrev pub same_truth : Bool → Bool → Bool
same_truth a b = if a then b else not b

-- both literals are of one boolean
abbrev pub same_var : Lit → Lit → Bool
same_var a b = nat_eq a.var.0 b.var.0

-- the boolean of the literal is below this number
abbrev pub in_range : ℕ → Lit → Bool
in_range bools l = nat_lt l.var.0 bools

-- no boolean stands twice
abbrev pub distinct : List Lit → Bool
distinct [] = true
distinct (l ∷ ls) = list_all (λ m. not (same_var l m)) ls && distinct ls

-- a clause over so many booleans: each literal in range, no boolean twice
abbrev pub is_clause : ℕ → List Lit → Bool
is_clause bools ls = list_all (in_range bools) ls && distinct ls

-- the values make the literal true
abbrev pub lit_holds : List Bool → Lit → Bool
lit_holds values l = same_truth (slice_index_or values l.var.0 false) l.sign

-- the values make a literal of the clause true
abbrev pub clause_holds : List Bool → List Lit → Bool
clause_holds values c = list_any (lit_holds values) c
