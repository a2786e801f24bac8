-- Marks and the literals noted as taken for true.
use Rattle.std.specs.Prelude.{◌≡◌, ℕ, Bool, true, ◌&&◌, nat_eq, List, length, All, None, is_some, slice_index_or}
use Rattle.std.specs.List.{list_any}
use Rattle.lv_base.specs.declared.ids.Lit.{Lit}
use Rattle.lv_clauses.specs.Literals.{in_range}
use Rattle.lv_clauses.specs.Marks.{Marks, is_free}

-- the literal is of this boolean
abbrev pub is_of : ℕ → Lit → Bool
is_of var l = nat_eq l.var.0 var

-- each boolean that is marked is one of the literals taken
abbrev pub AreTaken : Marks → List Lit → Type 0
AreTaken marks taken = (var : ℕ) → is_some (slice_index_or marks var None) ≡ true → list_any (is_of var) taken ≡ true

-- the literal's boolean is marked
pub record HasMark (marks : Marks) (l : Lit) : Type 0 where
  pub marked : is_some (slice_index_or marks l.var.0 None) ≡ true

-- what is noted are literals of just those booleans that are marked
pub record AreNoted (marks : Marks) (noted : List Lit) : Type 0 where
  pub each_marked : AreTaken marks noted
  pub each_noted : All (HasMark marks) noted

-- the boolean is in range and unmarked
abbrev pub is_open : Marks → Lit → Bool
is_open marks l = in_range (length marks) l && is_free marks l
