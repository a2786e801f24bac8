-- Literals that are claimed, each as often as it is, and what is assumed for them.
use Rattle.std.specs.Prelude.{◌≡◌, ℕ, ◌+◌, ◌≤◌, ◌<◌, ◌^◌, Bool, true, nat_eq, if◌then◌else◌, List, length, map, count_by, Option, Some, None, slice_index_or, Contains}
use Rattle.std.specs.List.{sum, list_all}
use Rattle.lv_base.specs.declared.ids.Lit.{Lit}
use Rattle.lv_base.specs.declared.ids.VarId.{VarId}
use Rattle.lv_clauses.specs.ClauseMap.{Slots, clause_at}
use Rattle.lv_clauses.specs.Noted.{is_of}
use Rattle.lv_ltms.specs.System.{System}
use Rattle.lv_model.specs.declared.plant.Plant.{Plant}
use Rattle.lv_compile.specs.Booleans.{Booleans}
use Rattle.lv_compile.specs.FormulaClauses.{Clauses}
use Rattle.lv_compile.specs.ModelClauses.{model_clauses}
use Rattle.lv_labels.specs.declared.values.Values.{Values}
use Rattle.lv_labels.specs.Literals.{values_of, mode_variables}

-- the clauses present, how often each boolean is claimed, the booleans of the variables, and the variables that are modes
pub record Claims : Type 0 where
  pub clauses : Slots
  pub counts : List ℕ
  pub values : Values
  pub modes : List VarId

-- the clause is present
pub record IsPresent (slots : Slots) (c : List Lit) : Type 0 where
  pub number : ℕ
  pub at : clause_at slots number ≡ Some c

-- just these clauses are present
pub record AreJust (clauses : Clauses) (slots : Slots) : Type 0 where
  pub each : (c : List Lit) → Contains clauses c → IsPresent slots c
  pub only : (id : ℕ) (c : List Lit) → clause_at slots id ≡ Some c → Contains clauses c

abbrev pub is_positive : Lit → Bool
is_positive l = l.sign

abbrev pub count_at : List ℕ → ℕ → ℕ
count_at counts b = slice_index_or counts b 0

-- what is claimed for a plant are these literals: that variables have values, each as often as it stands among them; and the
-- clauses present are the plant's
pub record IsClaiming (plant : Plant) (literals : List Lit) (c : Claims) : Type 0 where
  pub clauses : AreJust (model_clauses plant) c.clauses
  pub values : c.values ≡ values_of plant
  pub modes : c.modes ≡ mode_variables plant
  pub counts : (b : ℕ) → count_at c.counts b ≡ count_by (is_of b) literals
  pub positive : list_all is_positive literals ≡ true

-- a boolean that is claimed is assumed to be true
abbrev pub mark_of : ℕ → Option Bool
mark_of n = if nat_eq n 0 then None else Some true

-- just the booleans that are claimed are assumed
pub record AreAssumed (counts : List ℕ) (s : System) : Type 0 where
  pub bools : s.bools ≡ length counts
  pub assumed : s.assumed ≡ map mark_of counts

-- variables few enough for their numbers, and booleans below this one
pub record AreWithin (bools : ℕ) (b : Booleans) : Type 0 where
  pub few : length b.sizes < 2 ^ 32
  pub within : b.first + sum b.sizes ≤ bools

-- what is kept beside the claims
pub record IsKept (counts : List ℕ) (values : Values) (s : System) : Type 0 where
  pub assumed : AreAssumed counts s
  pub before : AreWithin (length counts) values.before
  pub after : AreWithin (length counts) values.after
