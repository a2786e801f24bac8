-- The clauses of a block in the order of their numbers: first the model's, then its own.
use Rattle.std.specs.Prelude.{Bool, List, [], ◌∷◌, ◌++◌, ℕ, map, unwrap_or}
use Rattle.lv_base.specs.declared.ids.Lit.{Lit}
use Rattle.lv_cert.specs.declared.line.Literal.{Literal}
use Rattle.lv_system.specs.Numbering.{clause_of}
use Rattle.lv_system.specs.System.{SystemValue}
use Rattle.lv_cert_meaning.specs.Following.{follows}

-- the model's system, and the clauses that the block states or has derived so far
pub record BlockValue : Type 0 where
  pub system : SystemValue
  pub own : List (List Lit)

-- the clauses of a system in the order of their numbers
abbrev pub clauses_of : SystemValue → List (List Lit)
clauses_of s = map (λ id. unwrap_or (clause_of s.set.slots id) []) s.ids

abbrev pub block_clauses : BlockValue → List (List Lit)
block_clauses b = clauses_of b.system ++ b.own

-- the block with one clause more
abbrev pub with_clause : BlockValue → List Lit → BlockValue
with_clause b c = record { system = b.system; own = b.own ++ c ∷ [] }

-- a line of these literals and hints follows in the block
abbrev pub follows_in : BlockValue → List Literal → List ℕ → Bool
follows_in b literals hints = follows b.system.set.bools (block_clauses b) literals hints
