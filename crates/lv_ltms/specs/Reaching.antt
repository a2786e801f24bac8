-- Which true literals rest on which others, and what stays where one of them goes.
use Rattle.std.specs.Prelude.{◌≡◌, ◌≢◌, Bool, true, false, List, Some, IsSome, Contains}
use Rattle.lv_base.specs.declared.ids.Lit.{Lit}
use Rattle.lv_base.specs.declared.ids.ClauseId.{ClauseId}
use Rattle.lv_clauses.specs.Literals.{neg}
use Rattle.lv_clauses.specs.ClauseMap.{Slots, clause_at}
use Rattle.lv_ltms.specs.declared.labels.Link.{Link}
use Rattle.lv_ltms.specs.declared.labels.Reason.TheVariants.{Assumed, Clause}
use Rattle.lv_ltms.specs.Trail.{reason_in}

-- a literal reaches itself; one whose reason is a clause reaches what the negation of another literal of the clause reaches
pub data Reaches (clauses : Slots) (trail : List Link) (goal_lit : Lit) : Lit → Type 0 where
  itself : Reaches clauses trail goal_lit goal_lit
  by_reason : {l : Lit} → (id : ClauseId) (c : List Lit) (m : Lit) → reason_in trail l ≡ Some (Clause id) → clause_at clauses id.0 ≡ Some c → Contains c m → m ≢ l
      → Reaches clauses trail goal_lit (neg m) → Reaches clauses trail goal_lit l

-- what gave the labels is there still, but for the assumption of this literal
pub record IsWithout (assumed : Lit → Bool) (clauses : Slots) (trail : List Link) (l : Lit) : Type 0 where
  pub against : (k : Link) → Contains trail k → assumed (neg k.lit) ≡ false
  pub assumptions : (k : Link) → Contains trail k → k.reason ≡ Assumed → k.lit ≢ l → assumed k.lit ≡ true
  pub present : (k : Link) (id : ClauseId) → Contains trail k → k.reason ≡ Clause id → IsSome (clause_at clauses id.0)

-- of this part of the trail, the links of literals that don't reach this one are there
pub record StaysOn (clauses : Slots) (trail : List Link) (l : Lit) (part now : List Link) : Type 0 where
  pub stays : (k : Link) → Contains part k → ¬ Reaches clauses trail l k.lit → Contains now k
