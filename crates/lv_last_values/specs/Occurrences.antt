-- What values that turned have to be judged by.
use Rattle.std.specs.Prelude.{◌≡◌, ◌⊎◌, ℕ, ◌<◌, Bool, true, false, List, [], Option, Some, IfSome, slice_index_or, Contains}
use Rattle.lv_base.specs.declared.ids.Lit.{Lit}
use Rattle.lv_base.specs.declared.ids.BoolId.{BoolId}
use Rattle.lv_base.specs.declared.ids.ClauseId.{ClauseId}
use Rattle.lv_clauses.specs.Literals.{lit_holds}
use Rattle.lv_clauses.specs.ClauseMap.{ClauseMap, Slots, clause_at, slot_holds}
use Rattle.lv_last_values.specs.Values.{IsModel}
use Rattle.lv_last_values.specs.Rows.{Rows, IsIn}

-- each clause present of a number below this one is in the row of each of its literals
abbrev pub NamesBelow : ℕ → Slots → Rows → Type 0
NamesBelow bound slots rows = (id : ClauseId) (c : List Lit) (l : Lit) → id.0 < bound → clause_at slots id.0 ≡ Some c → Contains c l → IsIn rows l id

-- each clause present is in the row of each of its literals
abbrev pub NamesAll : Slots → Rows → Type 0
NamesAll slots rows = (id : ClauseId) (c : List Lit) (l : Lit) → clause_at slots id.0 ≡ Some c → Contains c l → IsIn rows l id

-- nothing stands at the number, or a clause that the values make true
abbrev pub id_holds : List Bool → Slots → ClauseId → Bool
id_holds values slots id = slot_holds values (clause_at slots id.0)

-- each clause in the literal's row is true or isn't present
abbrev pub RowHolds : Slots → Rows → List Bool → Lit → Type 0
RowHolds slots rows values l = (id : ClauseId) → IsIn rows l id → id_holds values slots id ≡ true

-- the literal of the boolean that the values make true
abbrev pub true_lit : List Bool → ℕ → Lit
true_lit values var = record { var = record { 0 = var }; sign = slice_index_or values var false }

-- each boolean at which the values differ from the last ones is among these
abbrev pub AreTurned : List Bool → List Bool → List BoolId → Type 0
AreTurned last values turned = (var : ℕ) → (slice_index_or values var false ≡ slice_index_or last var false) ⊎ Contains turned (record { 0 = var })

-- where the boolean turned, all is true in the row of its literal that was true
abbrev pub IsSettled : Slots → Rows → List Bool → List Bool → ℕ → Type 0
IsSettled slots rows last values var = lit_holds values (true_lit last var) ≡ false → RowHolds slots rows values (true_lit last var)

-- the values, where any are kept, satisfy all clauses, and so do the rows name all, where there are any
pub record IsUpToDate (set : ClauseMap) (values : Option (List Bool)) (rows : Option Rows) : Type 0 where
  pub model : IfSome values (IsModel set [])
  pub names : IfSome rows (NamesAll set.slots)
