-- A truth maintenance system as contracts see it, and what its answers tell.
use Rattle.std.specs.Prelude.{◌≡◌, ◌≢◌, ℕ, ◌≤◌, Bool, true, List, length, Option, None, slice_set}
use Rattle.std.specs.List.{list_any}
use Rattle.lv_base.specs.declared.ids.Lit.{Lit}
use Rattle.lv_base.specs.declared.ids.ClauseId.{ClauseId}
use Rattle.lv_clauses.specs.Literals.{distinct}
use Rattle.lv_clauses.specs.ClauseMap.{Slots, clause_at}
use Rattle.lv_clauses.specs.Closure.{InClosure, IsContradictory}
use Rattle.lv_clauses.specs.Marks.{Marks, is_marked}
use Rattle.lv_ltms.specs.declared.labels.Link.{Link}
use Rattle.lv_ltms.specs.declared.ltms.Status.{Status}
use Rattle.lv_ltms.specs.declared.ltms.Status.TheVariants.{Consistent, Contradiction}
use Rattle.lv_ltms.specs.Trail.{same_lit, trail_has, reason_in, IsDerivation}
use Rattle.lv_ltms.specs.Reaching.{Reaches}
use Rattle.lv_ltms.specs.Labelled.{Labelled}
use Rattle.lv_ltms.specs.Watching.{Rows}
use Rattle.lv_ltms.specs.Standing.{IsNetwork, IsLooked, Stops, TellsEmpty}
use Rattle.lv_ltms.specs.Revising.{AreMarked}

-- the clauses present over so many booleans, the assumptions present as marks, and the trail of the true literals
pub record System : Type 0 where
  pub bools : ℕ
  pub clauses : Slots
  pub assumed : Marks
  pub trail : List Link

-- the literal is in the unit closure of the clauses and assumptions present
abbrev pub IsDerived : System → Lit → Type 0
IsDerived s l = InClosure s.clauses (is_marked s.assumed) l

-- the unit closure of the clauses and assumptions present is contradictory
abbrev pub IsRefuted : System → Type 0
IsRefuted s = IsContradictory s.clauses (is_marked s.assumed)

-- the new system has this clause or nothing at the number, all other clauses and the assumptions are as before
pub record PutsClause (old new : System) (id : ℕ) (slot : Option (List Lit)) : Type 0 where
  pub bools : new.bools ≡ old.bools
  pub assumed : new.assumed ≡ old.assumed
  pub changed : clause_at new.clauses id ≡ slot
  pub others : (other : ℕ) → other ≢ id → clause_at new.clauses other ≡ clause_at old.clauses other

-- the new system has these assumptions, and the clauses are as before
pub record PutsAssumed (old new : System) (assumed : Marks) : Type 0 where
  pub bools : new.bools ≡ old.bools
  pub clauses : new.clauses ≡ old.clauses
  pub changed : new.assumed ≡ assumed

-- each literal that was true and didn't reach this one is true still, for the same reason
pub record KeepsReasons (old new : System) (l : Lit) : Type 0 where
  pub true_still : (m : Lit) → trail_has old.trail m ≡ true → ¬ Reaches old.clauses old.trail l m → trail_has new.trail m ≡ true
  pub same_reason : (m : Lit) → trail_has old.trail m ≡ true → ¬ Reaches old.clauses old.trail l m → reason_in new.trail m ≡ reason_in old.trail m

-- the new system is without the assumption of the literal, the clauses are as before; and where the old one is consistent,
-- what didn't rest on the literal is as it was
pub record Retracts (old new : System) (l : Lit) : Type 0 where
  pub bools : new.bools ≡ old.bools
  pub clauses : new.clauses ≡ old.clauses
  pub changed : new.assumed ≡ slice_set old.assumed l.var.0 None
  pub reasons : ¬ IsRefuted old → KeepsReasons old new l

abbrev pub TellsStatus : System → Status → Type 0
TellsStatus s Consistent = ¬ IsRefuted s
TellsStatus s Contradiction = IsRefuted s

-- the trail holds just what is derived, each literal with its reason from those before it
pub record IsWholeTrail (s : System) : Type 0 where
  pub derivation : IsDerivation s.clauses (is_marked s.assumed) s.trail
  pub complete : (l : Lit) → IsDerived s l → trail_has s.trail l ≡ true

abbrev pub in_list : List Lit → Lit → Bool
in_list ls l = list_any (λ k. same_lit k l) ls

-- assumptions present, of distinct booleans, which with the clauses present are contradictory
pub record IsCore (s : System) (core : List Lit) : Type 0 where
  pub present : (l : Lit) → in_list core l ≡ true → is_marked s.assumed l ≡ true
  pub distinct : distinct core ≡ true
  pub contradictory : IsContradictory s.clauses (in_list core)

-- what is kept beside the system: clauses, what they watch, and labels agree; the trail is derived by what is present and
-- has each assumption; it was looked at to its end, or a clause is known that is false; and there is room for each
-- boolean to fall
pub record IsKept (s : System) (near far : Rows) (labels : Labelled) (done : ℕ) (conflict empty : Option ClauseId) (space : ℕ) : Type 0 where
  pub assumed : length s.assumed ≡ s.bools
  pub trail : s.trail ≡ labels.trail
  pub network : IsNetwork s.bools s.clauses near far labels
  pub looked : IsLooked s.clauses near far labels done
  pub stops : Stops s.clauses labels done conflict
  pub tells_empty : TellsEmpty s.clauses empty
  pub derivation : IsDerivation s.clauses (is_marked s.assumed) labels.trail
  pub assumptions : AreMarked (is_marked s.assumed) labels
  pub room : s.bools ≤ space
