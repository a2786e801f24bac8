-- The same clauses present, whatever their numbers.
use Rattle.std.specs.Prelude.{◌≡◌, ◌<◌, ℕ, List, Some}
use Rattle.lv_base.specs.declared.ids.Lit.{Lit}
use Rattle.lv_clauses.specs.ClauseMap.{Slots, clause_at}
use Rattle.lv_labels.specs.Claims.{IsPresent}

-- each clause of the first with a number below this is one of the second, which has no others
pub record AreCopied (bound : ℕ) (first second : Slots) : Type 0 where
  pub each : (id : ℕ) (c : List Lit) → id < bound → clause_at first id ≡ Some c → IsPresent second c
  pub only : (id : ℕ) (c : List Lit) → clause_at second id ≡ Some c → IsPresent first c

-- both have the same clauses
pub record AreSame (first second : Slots) : Type 0 where
  pub each : (id : ℕ) (c : List Lit) → clause_at first id ≡ Some c → IsPresent second c
  pub only : (id : ℕ) (c : List Lit) → clause_at second id ≡ Some c → IsPresent first c
