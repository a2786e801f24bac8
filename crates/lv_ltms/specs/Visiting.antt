-- Going along the clauses that watch a literal which became false.
use Rattle.std.specs.Prelude.{◌≡◌, ℕ, Bool, true, not, ◌&&◌, List, [], Option, Some, None, Contains}
use Rattle.lv_base.specs.declared.ids.Lit.{Lit}
use Rattle.lv_base.specs.declared.ids.ClauseId.{ClauseId}
use Rattle.lv_clauses.specs.Literals.{neg}
use Rattle.lv_clauses.specs.ClauseMap.{Slots, clause_at}
use Rattle.lv_clauses.specs.Marks.{Marks, is_marked}
use Rattle.lv_ltms.specs.Trail.{same_lit}
use Rattle.lv_ltms.specs.Labelled.{Labelled}
use Rattle.lv_ltms.specs.Watching.{IsWatching}
use Rattle.lv_ltms.specs.Standing.{AreTrue}

-- the literal isn't false
abbrev pub is_open : Marks → Lit → Bool
is_open marks l = not (is_marked marks (neg l))

-- the literal isn't this one, and isn't false
abbrev pub is_open_but : Lit → Marks → Lit → Bool
is_open_but but marks l = not (same_lit l but) && not (is_marked marks (neg l))

-- what was watched well is, and where no clause was found to be false, each that watches this literal has its other one true
pub record Visits (slots : Slots) (old new far : ℕ → Lit) (before after : Labelled) (l : Lit) (found : Option ClauseId) : Type 0 where
  pub kept : (truth other : Lit → Bool) → AreTrue truth before.marks → AreTrue other before.marks → IsWatching slots old far truth other before.marks [] → IsWatching slots new far truth other after.marks []
  pub turned : found ≡ None → (id : ℕ) (c : List Lit) (m : Lit) → clause_at slots id ≡ Some c → Contains c m → new id ≡ l → is_marked after.marks (far id) ≡ true
