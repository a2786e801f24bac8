-- What the analysis of a false clause derives: a clause of negations of entries that were needed.
use Rattle.std.specs.Prelude.{◌≡◌, ℕ, ◌+◌, ◌<◌, ◌≤◌, Bool, true, false, List, [], ◌∷◌, ◌++◌, map, filter, length, take, drop, Option, Some, None, IsSome, reverse, slice_index_or, slice_set, unwrap_or}
use Rattle.lv_base.specs.declared.ids.Lit.{Lit}
use Rattle.lv_clauses.specs.Literals.{neg}
use Rattle.lv_clauses.specs.ClauseMap.{ClauseMap, Slots}
use Rattle.lv_clauses.specs.Marks.{Marks, is_marked}
use Rattle.lv_clauses.specs.declared.log.Hint.{Hint}
use Rattle.lv_clauses.specs.declared.log.Step.{Step}
use Rattle.lv_clauses.specs.Following.{clause_of, ends_well, follows_by_hints}
use Rattle.lv_trail.specs.declared.trail.Entry.{Entry}
use Rattle.lv_trail.specs.declared.analysis.Flip.{Flip}
use Rattle.lv_trail.specs.Trail.{lits_of, among, unforced}

-- the literal's boolean was seen
abbrev pub sees : List Bool → Lit → Bool
sees seen l = slice_index_or seen l.var.0 false

-- the booleans of all these literals seen too
abbrev pub seen_all : List Bool → List Lit → List Bool
seen_all seen [] = seen
seen_all seen (l ∷ ls) = seen_all (slice_set seen l.var.0 true) ls

-- and those of the clause that a hint names
abbrev pub seen_by : Slots → List Step → Hint → List Bool → List Bool
seen_by slots log h seen = seen_all seen (unwrap_or (clause_of slots log h) [])

-- the literals of the entries seen
abbrev pub needed : List Bool → List Entry → List Lit
needed seen entries = filter (sees seen) (lits_of entries)

-- the negations of the entries seen
abbrev pub denial : List Bool → List Entry → List Lit
denial seen entries = map neg (needed seen entries)

-- the entries before the place, and those from it on without a reason
abbrev pub left_at : ℕ → List Entry → List Entry
left_at at entries = take at entries ++ unforced (drop at entries)

-- at the place no choice stands
abbrev pub HasReason : List Entry → ℕ → Type 0
HasReason entries at = (d : Entry) → IsSome (slice_index_or entries at d).reason

-- a choice at or before the place, and none of the entries from it on and before the place was seen
pub record IsApart (seen : List Bool) (entries : List Entry) (floor at cut : ℕ) : Type 0 where
  pub above : floor ≤ cut
  pub before : cut ≤ at
  pub chosen : (d : Entry) → (slice_index_or entries cut d).reason ≡ None
  pub unseen : needed seen (take at entries) ≡ needed seen (take cut entries)

-- and the entry at the place was seen
pub record IsCut (seen : List Bool) (entries : List Entry) (floor at cut : ℕ) : Type 0 where
  pub apart : IsApart seen entries floor at cut
  pub seen_too : (d : Entry) → sees seen (slice_index_or entries at d).lit ≡ true

-- the entry at the place is no choice if it was seen
abbrev pub IsForcedIfSeen : List Bool → List Entry → ℕ → Type 0
IsForcedIfSeen seen entries at = (d : Entry) → sees seen (slice_index_or entries at d).lit ≡ true → IsSome (slice_index_or entries at d).reason

-- the place where a choice stands there, else the other one
abbrev pub choice_or : Option Hint → ℕ → Option ℕ → Option ℕ
choice_or None at other = Some at
choice_or (Some h) at other = other

abbrev pub IsChoiceOr : List Entry → ℕ → Option ℕ → Option ℕ → Type 0
IsChoiceOr entries at other result = (d : Entry) → result ≡ choice_or (slice_index_or entries at d).reason at other

-- those of these literals that were seen are marked, and nothing that isn't on the trail is
pub record Covers (seen : List Bool) (kept : List Lit) (entries : List Entry) (marks : Marks) : Type 0 where
  pub needed : (l : Lit) → among kept l ≡ true → sees seen l ≡ true → is_marked marks l ≡ true
  pub within : (l : Lit) → is_marked marks l ≡ true → among (lits_of entries) l ≡ true

-- the hints taken, the last one first, end well once those of these literals that were seen are taken as true
pub record IsPending (set : ClauseMap) (log : List Step) (entries : List Entry) (kept : List Lit) (seen : List Bool) (hints : List Hint) : Type 0 where
  pub len : length seen ≡ set.bools
  pub ends : (marks : Marks) → length marks ≡ set.bools → Covers seen kept entries marks → ends_well set.slots log (reverse hints) marks ≡ true

-- the walk stopped behind an entry that was seen, or at the floor
pub record IsStopped (set : ClauseMap) (log : List Step) (entries : List Entry) (floor : ℕ) (seen : List Bool) (hints : List Hint) (flip : Flip) : Type 0 where
  pub pending : IsPending set log entries (lits_of (take (flip.place + 1) entries)) seen hints
  pub within : flip.place < length entries
  pub cut : IsCut seen entries floor flip.place flip.cut

abbrev pub StopsAt : ClauseMap → List Step → List Entry → ℕ → List Bool → List Hint → Option Flip → Type 0
StopsAt set log entries floor seen hints None = IsPending set log entries (lits_of (take floor entries)) seen hints
StopsAt set log entries floor seen hints (Some flip) = IsStopped set log entries floor seen hints flip

-- an entry that was seen gives way to its reason
pub record GivesWay (slots : Slots) (log : List Step) (h : Hint) (old : List Bool) (given : List Hint) (new : List Bool) (more : List Hint) : Type 0 where
  pub seen : new ≡ seen_by slots log h old
  pub hints : more ≡ given ++ h ∷ []

pub record IsUnchanged (old : List Bool) (given : List Hint) (new : List Bool) (more : List Hint) : Type 0 where
  pub seen : new ≡ old
  pub hints : more ≡ given

-- an entry that wasn't seen or has no reason stays as it is
abbrev pub GoesPast : Slots → List Step → Bool → Option Hint → List Bool → List Hint → List Bool → List Hint → Type 0
GoesPast slots log false reason old hints new more = IsUnchanged old hints new more
GoesPast slots log true None old hints new more = IsUnchanged old hints new more
GoesPast slots log true (Some h) old hints new more = GivesWay slots log h old hints new more

-- an entry's literal gives way to its reason, and isn't seen any more
pub record IsReplaced (slots : Slots) (log : List Step) (l : Lit) (h : Hint) (old : List Bool) (given : List Hint) (new : List Bool) (more : List Hint) : Type 0 where
  pub seen : new ≡ slice_set (seen_by slots log h old) l.var.0 false
  pub hints : more ≡ given ++ h ∷ []

-- where it has no reason, it stays
abbrev pub Replaces : Slots → List Step → Lit → Option Hint → List Bool → List Hint → List Bool → List Hint → Type 0
Replaces slots log l None old hints new more = IsUnchanged old hints new more
Replaces slots log l (Some h) old hints new more = IsReplaced slots log l h old hints new more

-- the log has one step more, which follows by its hints: its clause is of negations of these entries
pub record IsDerived (set : ClauseMap) (old new : List Step) (kept : List Entry) : Type 0 where
  pub step : Step
  pub seen : List Bool
  pub added : new ≡ old ++ step ∷ []
  pub clause : step.clause ≡ denial seen kept
  pub follows : follows_by_hints set old step ≡ true

-- the last literal of the clause negates the entry at the place, and none other an entry from the cut on
pub record IsTurning (set : ClauseMap) (old new : List Step) (floor : ℕ) (entries : List Entry) (flip : Flip) : Type 0 where
  pub derived : IsDerived set old new (take (flip.place + 1) entries)
  pub within : flip.place < length entries
  pub cut : IsCut derived.seen entries floor flip.place flip.cut

-- the clause turns an entry, or it is of negations of entries below the floor that have no reason
abbrev pub Derives : ClauseMap → List Step → List Step → ℕ → List Entry → Option Flip → Type 0
Derives set old new floor entries None = IsDerived set old new (unforced (take floor entries))
Derives set old new floor entries (Some flip) = IsTurning set old new floor entries flip
