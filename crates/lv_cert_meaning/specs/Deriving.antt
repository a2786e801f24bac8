-- Lines of which each follows from given clauses and the lines before it.
use Rattle.std.specs.Prelude.{ℕ, Bool, true, false, ◌&&◌, nat_eq, List, [], ◌∷◌, ◌++◌, length, map}
use Rattle.lv_base.specs.declared.ids.Lit.{Lit}
use Rattle.lv_cert.specs.declared.line.Literal.{Literal}
use Rattle.lv_cert_meaning.specs.Following.{literal_of, follows}

-- what a clause line says
pub record Derived : Type 0 where
  pub literals : List Literal
  pub hints : List ℕ

abbrev pub clause_of_line : Derived → List Lit
clause_of_line d = map literal_of d.literals

-- each line follows from the clauses and the lines before it
abbrev pub derives : ℕ → List (List Lit) → List Derived → Bool
derives bools clauses [] = true
derives bools clauses (d ∷ ds) = follows bools clauses d.literals d.hints && derives bools (clauses ++ clause_of_line d ∷ []) ds

-- the last line has no literals
abbrev pub ends_empty : List Derived → Bool
ends_empty [] = false
ends_empty (d ∷ []) = nat_eq (length d.literals) 0
ends_empty (d ∷ (e ∷ more)) = ends_empty (e ∷ more)

-- the lines derive the clause that nothing makes true
abbrev pub refutes : ℕ → List (List Lit) → List Derived → Bool
refutes bools clauses lines = derives bools clauses lines && ends_empty lines
