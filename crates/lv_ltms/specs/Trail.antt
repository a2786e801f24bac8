-- The trail: the literals that are true, in an order in which each has its reason from those before it.
use Rattle.std.specs.Prelude.{◌≡◌, ◌≢◌, ℕ, Bool, true, ◌&&◌, List, [], ◌∷◌, ◌++◌, Option, Some, Contains, option_map, find}
use Rattle.std.specs.List.{list_any}
use Rattle.lv_base.specs.declared.ids.Lit.{Lit}
use Rattle.lv_clauses.specs.Literals.{neg, same_truth, same_var}
use Rattle.lv_clauses.specs.ClauseMap.{Slots, clause_at}
use Rattle.lv_ltms.specs.declared.labels.Link.{Link}
use Rattle.lv_ltms.specs.declared.labels.Reason.{Reason}
use Rattle.lv_ltms.specs.declared.labels.Reason.TheVariants.{Assumed, Clause}

abbrev pub same_lit : Lit → Lit → Bool
same_lit a b = same_var a b && same_truth a.sign b.sign

-- the literal is on the trail
abbrev pub trail_has : List Link → Lit → Bool
trail_has trail l = list_any (λ (k : Link). same_lit k.lit l) trail

-- the clause is present, has the literal, and the negations of its others are on the trail
pub record IsUnit (clauses : Slots) (before : List Link) (l : Lit) (id : ℕ) : Type 0 where
  pub clause : List Lit
  pub present : clause_at clauses id ≡ Some clause
  pub member : Contains clause l
  pub others : (m : Lit) → Contains clause m → m ≢ l → trail_has before (neg m) ≡ true

-- an assumption, or a clause that leaves just this literal
abbrev pub IsReason : Slots → (Lit → Bool) → List Link → Lit → Reason → Type 0
IsReason clauses assumed before l Assumed = assumed l ≡ true
IsReason clauses assumed before l (Clause id) = IsUnit clauses before l id.0

-- each literal of the trail has its reason from those before it
pub data IsDerivation (clauses : Slots) (assumed : Lit → Bool) : List Link → Type 0 where
  start : IsDerivation clauses assumed []
  next : {trail : List Link} → (before : List Link) (link : Link) → IsDerivation clauses assumed before
      → IsReason clauses assumed before link.lit link.reason → trail ≡ before ++ link ∷ [] → IsDerivation clauses assumed trail

-- the reason of a literal on the trail, which is also that of its negation
abbrev pub reason_in : List Link → Lit → Option Reason
reason_in trail l = option_map (λ (k : Link). k.reason) (find (λ (k : Link). same_var k.lit l) trail)
