-- Taking labels away whose support is gone, and finding other supports.
use Rattle.std.specs.Prelude.{◌≡◌, ◌≢◌, ℕ, ◌<◌, Bool, true, false, ◌||◌, ◌&&◌, not, List, length, take, Option, Some, None, slice_index_or, Contains}
use Rattle.std.specs.List.{list_all}
use Rattle.lv_base.specs.declared.ids.Lit.{Lit}
use Rattle.lv_base.specs.declared.ids.ClauseId.{ClauseId}
use Rattle.lv_clauses.specs.Literals.{neg}
use Rattle.lv_clauses.specs.ClauseMap.{Slots, clause_at}
use Rattle.lv_clauses.specs.Marks.{Marks, is_marked, is_free}
use Rattle.lv_ltms.specs.declared.labels.Link.{Link}
use Rattle.lv_ltms.specs.declared.labels.Reason.{Reason}
use Rattle.lv_ltms.specs.declared.labels.Reason.TheVariants.{Assumed, Clause}
use Rattle.lv_ltms.specs.Trail.{IsDerivation, same_lit}
use Rattle.lv_ltms.specs.Watching.{Rows, lit_at, is_fallen, has_lit, IsThreaded, AreGuarded, InRow, AllInRow}
use Rattle.lv_ltms.specs.Labelled.{Labelled, Grows}
use Rattle.lv_ltms.specs.Standing.{true_before}

-- no assumption is marked as false
pub record NoneAgainst (assumed : Lit → Bool) (truth : Lit → Bool) : Type 0 where
  pub against : (l : Lit) → assumed l ≡ true → truth (neg l) ≡ false

-- no assumption and its negation are there
pub record IsOneSided (assumed : Lit → Bool) : Type 0 where
  pub one_side : (l : Lit) → assumed l ≡ true → assumed (neg l) ≡ false

-- a clause that gave a label and is present has the literal, and its others are false before
pub record IsBacked (clauses : Slots) (trail : List Link) : Type 0 where
  pub member : (at : ℕ) (d : Link) (id : ClauseId) (c : List Lit) → at < length trail → (slice_index_or trail at d).reason ≡ Clause id → clause_at clauses id.0 ≡ Some c
      → Contains c (slice_index_or trail at d).lit
  pub others : (at : ℕ) (d : Link) (id : ClauseId) (c : List Lit) (m : Lit) → at < length trail → (slice_index_or trail at d).reason ≡ Clause id → clause_at clauses id.0 ≡ Some c
      → Contains c m → m ≢ (slice_index_or trail at d).lit → true_before at trail (neg m) ≡ true

-- what has to hold before labels are taken away from a place of the trail on
pub record IsShaken (assumed : Lit → Bool) (clauses : Slots) (trail : List Link) (from : ℕ) : Type 0 where
  pub one_sided : IsOneSided assumed
  pub backed : IsBacked clauses trail
  pub derivation : IsDerivation clauses assumed (take from trail)
  pub against : NoneAgainst assumed (true_before from trail)

-- the labels that lost their support are gone, and what stays is derived
pub record IsSwept (assumed : Lit → Bool) (clauses : Slots) (old new : Labelled) (fallen : List Lit) : Type 0 where
  pub were : (f : Lit) → has_lit fallen f ≡ true → is_marked old.marks f ≡ true
  pub derivation : IsDerivation clauses assumed new.trail
  pub against : NoneAgainst assumed (is_marked new.marks)
  pub kept : (l : Lit) → is_marked old.marks l ≡ true → (is_marked new.marks l || has_lit fallen l) ≡ true

-- the clause is there, has a literal, and watches just this one
pub record IsUnitOf (slots : Slots) (near far : ℕ → Lit) (l : Lit) (id : ℕ) : Type 0 where
  pub clause : List Lit
  pub member : Lit
  pub present : clause_at slots id ≡ Some clause
  pub has : Contains clause member
  pub near_lit : near id ≡ l
  pub far_lit : far id ≡ l

-- neither the literal nor its negation is true, and the negation isn't assumed
abbrev pub is_wanted_by : (Lit → Bool) → (Lit → Bool) → Lit → Bool
is_wanted_by assumed truth l = not (truth l) && not (truth (neg l)) && not (assumed (neg l))

-- an assumption or a clause of one literal that gives the literal its label, or there is none
abbrev pub GivesReason : (Lit → Bool) → Rows → Rows → Lit → Option Reason → Type 0
GivesReason assumed near far l None = (assumed l ≡ false) × AllInRow near l (λ id. lit_at far id.0 ≢ l)
GivesReason assumed near far l (Some Assumed) = assumed l ≡ true
GivesReason assumed near far l (Some (Clause id)) = InRow near l id × (lit_at far id.0 ≡ l)

-- a literal got its label, if an assumption or a clause of one literal gives it
pub record GetsSupport (assumed : Lit → Bool) (near far : Rows) (old new : Labelled) (l : Lit) : Type 0 where
  pub grows : Grows old new
  pub against : NoneAgainst assumed (is_marked new.marks)
  pub by_assumption : assumed l ≡ true → is_marked new.marks l ≡ true
  pub derivation : (slots : Slots) (bools : ℕ) (truth : Lit → Bool) (marks : Marks) (fallen : List Lit) → IsThreaded near slots bools → AreGuarded slots (lit_at near) (lit_at far) truth marks fallen
      → IsDerivation slots assumed old.trail → IsDerivation slots assumed new.trail
  pub by_unit : (slots : Slots) (bools : ℕ) → IsThreaded near slots bools → (id : ℕ) → IsUnitOf slots (lit_at near) (lit_at far) l id → assumed (neg l) ≡ false → is_free new.marks l ≡ false

-- the negations of these aren't assumed
pub record AreUpright (assumed : Lit → Bool) (fallen : List Lit) : Type 0 where
  pub upright : (f : Lit) → has_lit fallen f ≡ true → assumed (neg f) ≡ false

-- and no clause has one of them alone
pub record NoneOpposed (slots : Slots) (near far : ℕ → Lit) (fallen : List Lit) : Type 0 where
  pub opposed : (f : Lit) → has_lit fallen f ≡ true → (id : ℕ) → IsUnitOf slots near far (neg f) id → ⊥

-- the negation of a literal got its label too, if an assumption or a clause of one literal gives it; or nothing of these does
pub record TurnedToo (assumed : Lit → Bool) (near far : Rows) (both : Bool) (all : List Lit) (old new : Labelled) (f : Lit) : Type 0 where
  pub grows : Grows old new
  pub against : NoneAgainst assumed (is_marked new.marks)
  pub by_assumption : assumed (neg f) ≡ true → is_marked new.marks (neg f) ≡ true
  pub derivation : (slots : Slots) (bools : ℕ) (truth : Lit → Bool) (marks : Marks) (fallen : List Lit) → IsThreaded near slots bools → AreGuarded slots (lit_at near) (lit_at far) truth marks fallen
      → IsDerivation slots assumed old.trail → IsDerivation slots assumed new.trail
  pub by_unit : (slots : Slots) (bools : ℕ) → IsThreaded near slots bools → (both ≡ false → NoneOpposed slots (lit_at near) (lit_at far) all) → (id : ℕ) → IsUnitOf slots (lit_at near) (lit_at far) (neg f) id → assumed (neg (neg f)) ≡ false
      → is_free new.marks (neg f) ≡ false

-- each assumption has its boolean marked
pub record AreFixed (assumed : Lit → Bool) (labels : Labelled) : Type 0 where
  pub fixed : (l : Lit) → assumed l ≡ true → is_free labels.marks l ≡ false

-- each assumption is marked
pub record AreMarked (assumed : Lit → Bool) (labels : Labelled) : Type 0 where
  pub marked : (l : Lit) → assumed l ≡ true → is_marked labels.marks l ≡ true

-- each assumption is marked, or its boolean waits for another support
pub record AreMarkedOrWait (assumed : Lit → Bool) (labels : Labelled) (waiting : List Lit) : Type 0 where
  pub marked : (l : Lit) → assumed l ≡ true → (is_marked labels.marks l || is_fallen waiting l) ≡ true

-- the literal is this one, or it is false
abbrev pub is_other_or_false : (Lit → Bool) → Lit → Lit → Bool
is_other_or_false truth l m = same_lit m l || truth (neg m)

-- a clause is there whose literals but this one are false
abbrev pub derives_lit : (Lit → Bool) → Lit → Option (List Lit) → Bool
derives_lit truth l None = false
derives_lit truth l (Some c) = list_all (is_other_or_false truth l) c

-- the reason still supports the literal
abbrev pub reason_stands : (Lit → Bool) → Slots → (Lit → Bool) → Lit → Reason → Bool
reason_stands assumed slots truth l Assumed = assumed l
reason_stands assumed slots truth l (Clause id) = derives_lit truth l (clause_at slots id.0)
