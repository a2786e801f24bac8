-- The trail: literals taken as true, in an order in which each that isn't a choice is forced by a clause and those
-- before it.
use Rattle.std.specs.Prelude.{◌≡◌, ℕ, ◌+◌, ◌<◌, Bool, true, not, ◌&&◌, List, [], ◌∷◌, ◌++◌, length, map, filter, take, drop, Option, Some, is_none, count_by, slice_index_or, Contains}
use Rattle.std.specs.List.{list_any}
use Rattle.lv_base.specs.declared.ids.Lit.{Lit}
use Rattle.lv_clauses.specs.Literals.{neg, same_truth, same_var, in_range, is_clause}
use Rattle.lv_clauses.specs.ClauseMap.{ClauseMap, Slots}
use Rattle.lv_clauses.specs.Marks.{Marks, is_marked, is_free}
use Rattle.lv_clauses.specs.declared.log.Hint.{Hint}
use Rattle.lv_clauses.specs.declared.log.Step.{Step}
use Rattle.lv_clauses.specs.Following.{clause_of}
use Rattle.lv_trail.specs.declared.trail.Entry.{Entry}
use Rattle.lv_trail.specs.declared.analysis.Flip.{Flip}

abbrev pub same_lit : Lit → Lit → Bool
same_lit a b = same_var a b && same_truth a.sign b.sign

-- the literal is one of these
abbrev pub among : List Lit → Lit → Bool
among ls l = list_any (λ k. same_lit k l) ls

-- the literals of the entries
abbrev pub lits_of : List Entry → List Lit
lits_of entries = map (λ (e : Entry). e.lit) entries

-- the entries without a reason: what was assumed or chosen
abbrev pub unforced : List Entry → List Entry
unforced entries = filter (λ (e : Entry). is_none e.reason) entries

-- the boolean is in range and unmarked
abbrev pub is_open : Marks → Lit → Bool
is_open marks l = in_range (length marks) l && is_free marks l

-- the literals of the clause that aren't false where these are true
abbrev pub left_of : List Lit → List Lit → List Lit
left_of truths clause = filter (λ l. not (among truths (neg l))) clause

-- the hint names a clause of which just this literal isn't false where these literals are true
pub record IsForced (slots : Slots) (log : List Step) (truths : List Lit) (l : Lit) (h : Hint) : Type 0 where
  pub clause : List Lit
  pub named : clause_of slots log h ≡ Some clause
  pub left : left_of truths clause ≡ l ∷ []

-- the hint names a clause whose literals are all false where these are true
pub record IsFalse (slots : Slots) (log : List Step) (truths : List Lit) (h : Hint) : Type 0 where
  pub clause : List Lit
  pub named : clause_of slots log h ≡ Some clause
  pub turned : (m : Lit) → Contains clause m → among truths (neg m) ≡ true

-- the entries are of distinct booleans in range, and each with a reason is forced by it and those before it
pub record IsChain (set : ClauseMap) (log : List Step) (entries : List Entry) : Type 0 where
  pub clause : is_clause set.bools (lits_of entries) ≡ true
  pub forced : (place : ℕ) (d : Entry) (h : Hint) → place < length entries → (slice_index_or entries place d).reason ≡ Some h
      → IsForced set.slots log (lits_of (take place entries)) (slice_index_or entries place d).lit h

-- and the literals marked are those of the entries
pub record IsTrail (set : ClauseMap) (log : List Step) (marks : Marks) (entries : List Entry) : Type 0 where
  pub len : length marks ≡ set.bools
  pub same : (l : Lit) → is_marked marks l ≡ among (lits_of entries) l
  pub room : length entries + count_by is_none marks ≡ length marks
  pub chain : IsChain set log entries

-- the entry's literal turned, forced by the hint's clause
abbrev pub turned : Entry → Hint → Entry
turned e h = record { lit = neg e.lit; reason = Some h }

-- the hint's clause forces the negation of the entry at the place, where those before the cut are true
pub record IsTurned (set : ClauseMap) (log : List Step) (entries : List Entry) (flip : Flip) (h : Hint) : Type 0 where
  pub forced : (d : Entry) → IsForced set.slots log (lits_of (take flip.cut entries)) (neg (slice_index_or entries flip.place d).lit) h

-- the trail goes on from the old entries; a hint found names a false clause
pub record IsExtended (set : ClauseMap) (log : List Step) (old : List Entry) (marks : Marks) (entries : List Entry) (found : Option Hint) : Type 0 where
  pub trail : IsTrail set log marks entries
  pub front : entries ≡ old ++ drop (length old) entries
  pub refuted : (h : Hint) → found ≡ Some h → IsFalse set.slots log (lits_of entries) h

-- and all that is new is forced
pub record IsPropagated (set : ClauseMap) (log : List Step) (old : List Entry) (marks : Marks) (entries : List Entry) (found : Option Hint) : Type 0 where
  pub extended : IsExtended set log old marks entries found
  pub forced : unforced entries ≡ unforced old
