-- How far the trail was looked at, and what clauses say there.
use Rattle.std.specs.Prelude.{◌≡◌, ◌≢◌, ◌⊎◌, ℕ, ◌≤◌, Bool, true, false, nat_eq, List, [], length, take, Option, Some, None, Contains}
use Rattle.lv_base.specs.declared.ids.Lit.{Lit}
use Rattle.lv_base.specs.declared.ids.ClauseId.{ClauseId}
use Rattle.lv_clauses.specs.Literals.{neg}
use Rattle.lv_clauses.specs.ClauseMap.{Slots, clause_at, AreClauses}
use Rattle.lv_clauses.specs.Marks.{Marks, is_marked}
use Rattle.lv_ltms.specs.declared.labels.Link.{Link}
use Rattle.lv_ltms.specs.declared.propagation.Meeting.{Meeting}
use Rattle.lv_ltms.specs.declared.propagation.Meeting.TheVariants.{Holds, Moves, Fails}
use Rattle.lv_ltms.specs.declared.propagation.Pair.{Pair}
use Rattle.lv_ltms.specs.declared.propagation.Progress.{Progress}
use Rattle.lv_ltms.specs.Trail.{trail_has, IsDerivation}
use Rattle.lv_ltms.specs.Watching.{Rows, lit_at, IsThreaded, IsWatching}
use Rattle.lv_ltms.specs.Labelled.{Labelled, AreLabels, Grows}

-- the new clauses have this or nothing at the number; all others are as before
pub record PutsSlot (old new : Slots) (id : ℕ) (slot : Option (List Lit)) : Type 0 where
  pub changed : clause_at new id ≡ slot
  pub others : (other : ℕ) → other ≢ id → clause_at new other ≡ clause_at old other

-- a clause is there that has no literal
abbrev pub has_no_lits : Option (List Lit) → Bool
has_no_lits None = false
has_no_lits (Some c) = nat_eq (length c) 0

-- no clause is without literals
pub record NoneEmpty (slots : Slots) : Type 0 where
  pub never : (id : ℕ) → clause_at slots id ≡ Some [] → ⊥

-- the number is that of a clause without literals, or there is none
abbrev pub TellsEmpty : Slots → Option ClauseId → Type 0
TellsEmpty slots None = NoneEmpty slots
TellsEmpty slots (Some id) = clause_at slots id.0 ≡ Some []

-- the literal is one of the first links
abbrev pub true_before : ℕ → List Link → Lit → Bool
true_before at trail l = trail_has (take at trail) l

-- a clause is there each of whose literals is false
pub record IsFalsified (slots : Slots) (marks : Marks) (id : ℕ) : Type 0 where
  pub clause : List Lit
  pub present : clause_at slots id ≡ Some clause
  pub all_false : (m : Lit) → Contains clause m → is_marked marks (neg m) ≡ true

-- each literal true by this is marked
pub record AreTrue (truth : Lit → Bool) (marks : Marks) : Type 0 where
  pub marked : (l : Lit) → truth l ≡ true → is_marked marks l ≡ true

-- clauses, what they watch, and labels, as far as they don't depend on what was looked at
pub record IsNetwork (bools : ℕ) (slots : Slots) (near far : Rows) (labels : Labelled) : Type 0 where
  pub clauses : AreClauses bools slots
  pub near_rows : IsThreaded near slots bools
  pub far_rows : IsThreaded far slots bools
  pub are_labels : AreLabels bools labels

-- the links before this place were looked at
pub record IsLooked (slots : Slots) (near far : Rows) (labels : Labelled) (at : ℕ) : Type 0 where
  pub place : at ≤ length labels.trail
  pub watching : IsWatching slots (lit_at near) (lit_at far) (true_before at labels.trail) (true_before at labels.trail) labels.marks []

-- all links were looked at, or this clause is false
abbrev pub Stops : Slots → Labelled → ℕ → Option ClauseId → Type 0
Stops slots labels done None = done ≡ length labels.trail
Stops slots labels done (Some id) = IsFalsified slots labels.marks id.0

-- what a clause, all of whose literals but the other one that it watches are taken for false or moved to, comes to
abbrev pub Meets : List Lit → Lit → Marks → Marks → Meeting → Type 0
Meets c other old new Holds = is_marked new other ≡ true
Meets c other old new (Moves l) = Contains c l × (l ≢ other) × (is_marked old (neg l) ≡ false) × (new ≡ old)
Meets c other old new Fails = (is_marked old (neg other) ≡ true) × ((m : Lit) → Contains c m → m ≢ other → is_marked old (neg m) ≡ true) × (new ≡ old)

-- a literal of the clause that is false only where all are
pub record IsNear (c : List Lit) (marks : Marks) (l : Lit) : Type 0 where
  pub member : Contains c l
  pub all_false : is_marked marks (neg l) ≡ true → (m : Lit) → Contains c m → is_marked marks (neg m) ≡ true

-- two literals of the clause, of which the first is false only where all are, and the second only where all others are
pub record Picks (c : List Lit) (marks : Marks) (pair : Pair) : Type 0 where
  pub near : Contains c pair.near
  pub far : Contains c pair.far
  pub lone : pair.near ≡ pair.far → (m : Lit) → Contains c m → m ≡ pair.near
  pub near_false : is_marked marks (neg pair.near) ≡ true → (m : Lit) → Contains c m → is_marked marks (neg m) ≡ true
  pub far_false : is_marked marks (neg pair.far) ≡ true → (m : Lit) → Contains c m → m ≢ pair.near → is_marked marks (neg m) ≡ true

-- what a clause that was given two literals to watch makes of labels: it is false, or the first is marked where no other is left
pub record Settles (id : ClauseId) (pair : Pair) (old new : Labelled) (was is : Progress) : Type 0 where
  pub closed : is_marked old.marks (neg pair.near) ≡ true → (is ≡ record { done = 0; conflict = Some id }) × (new ≡ old)
  pub left_open : is_marked old.marks (neg pair.near) ≡ false → is ≡ was
  pub last : is_marked old.marks (neg pair.near) ≡ false → (pair.near ≡ pair.far) ⊎ (is_marked old.marks (neg pair.far) ≡ true) → is_marked new.marks pair.near ≡ true
  pub grows : Grows old new
  pub derivation : (slots : Slots) (assumed : Lit → Bool) (c : List Lit) → clause_at slots id.0 ≡ Some c → Picks c old.marks pair → IsDerivation slots assumed old.trail → IsDerivation slots assumed new.trail
