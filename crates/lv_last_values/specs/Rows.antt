-- For each literal a row of clauses that hold it: a chain of links. Their places are counted from 1, and 0 ends a row.
use Rattle.std.specs.Prelude.{◌≡◌, ℕ, ◌+◌, ◌-◌, ◌*◌, ◌<◌, ◌≤◌, List, length, slice_index_or, if◌then◌else◌, Contains}
use Rattle.lv_base.specs.declared.ids.Lit.{Lit}
use Rattle.lv_base.specs.declared.ids.ClauseId.{ClauseId}
use Rattle.lv_last_values.specs.declared.occurrences.Link.{Link}

-- where each row begins, and the links of all
pub record Rows : Type 0 where
  pub heads : List ℕ
  pub links : List Link

-- the number of a literal's row: two for each boolean
abbrev pub row_of : Lit → ℕ
row_of l = 2 * l.var.0 + (if l.sign then 1 else 0)

abbrev pub head_of : List ℕ → Lit → ℕ
head_of heads l = slice_index_or heads (row_of l) 0

abbrev pub link_at : List Link → ℕ → Link
link_at links place = slice_index_or links (place - 1) (record { number = 0; next = 0 })

abbrev pub id_of : Link → ClauseId
id_of link = record { 0 = link.number }

-- the links from this place on hold the clause
pub data Holds (links : List Link) (id : ClauseId) : ℕ → Type 0 where
  here : {place : ℕ} → 0 < place → place ≤ length links → id_of (link_at links place) ≡ id → Holds links id place
  later : {place : ℕ} → 0 < place → place ≤ length links → Holds links id (link_at links place).next → Holds links id place

-- each row begins at a link or is empty, and each link leads to one before it or ends its row
pub record AreRows (heads : List ℕ) (links : List Link) : Type 0 where
  pub begin : (row : ℕ) → slice_index_or heads row 0 ≤ length links
  pub follow : (place : ℕ) → 0 < place → place ≤ length links → (link_at links place).next < place

-- the clause is in the literal's row
abbrev pub IsIn : Rows → Lit → ClauseId → Type 0
IsIn rows l id = Holds rows.links id (head_of rows.heads l)

-- the rows keep what they had, and have the clause in the row of each of its literals
pub record Names (c : List Lit) (id : ClauseId) (old new : Rows) : Type 0 where
  pub kept : (l : Lit) (k : ClauseId) → IsIn old l k → IsIn new l k
  pub added : (l : Lit) → Contains c l → IsIn new l id
