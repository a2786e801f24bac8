-- How a clause line of a certificate follows by its hints from clauses that are numbered from 1: the negations of its
-- literals are taken as true; then each hint in order is the number of a clause of which one literal isn't false, and
-- that literal is taken as true; the last hint, and no other, is the number of a clause of which each literal is false.
use Rattle.std.specs.Prelude.{ℕ, ◌-◌, Bool, true, false, not, ◌&&◌, nat_eq, nat_lt, nat_le, List, [], ◌∷◌, map, Option, None, slice_get, if◌then◌else◌}
use Rattle.std.specs.List.{list_all}
use Rattle.lv_base.specs.declared.ids.Lit.{Lit}
use Rattle.lv_cert.specs.declared.line.Literal.{Literal}
use Rattle.lv_clauses.specs.Literals.{distinct}
use Rattle.lv_clauses.specs.Marks.{Marks, nothing}
use Rattle.lv_refcheck.specs.lv_clauses.Following.{goes_on_from, denied}

-- the number is that of one of so many booleans, which are numbered from 1
abbrev pub names_boolean : ℕ → Literal → Bool
names_boolean bools l = nat_lt 0 l.number && nat_le l.number bools

-- the literal of the boolean that has this number
abbrev pub literal_of : Literal → Lit
literal_of l = record { var = record { 0 = l.number - 1 }; sign = not l.negated }

-- the clause of this number, if there is one
abbrev pub numbered : List (List Lit) → ℕ → Option (List Lit)
numbered clauses n = if nat_eq n 0 then None else slice_get clauses (n - 1)

abbrev pub is_last : List ℕ → Bool
is_last [] = true
is_last (h ∷ hs) = false

-- the hints end well from these marks on
abbrev pub ends_well : List (List Lit) → List ℕ → Marks → Bool
ends_well clauses [] marks = false
ends_well clauses (h ∷ hs) marks = goes_on_from marks (is_last hs) (ends_well clauses hs) (numbered clauses h)

-- the literals are of distinct booleans, and their clause follows by the hints
abbrev pub follows : ℕ → List (List Lit) → List Literal → List ℕ → Bool
follows bools clauses literals hints =
    list_all (names_boolean bools) literals
    && (distinct (map literal_of literals) && ends_well clauses hints (denied (nothing bools) (map literal_of literals)))
