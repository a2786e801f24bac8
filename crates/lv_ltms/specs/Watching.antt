-- For each literal the clauses that watch it, as lists through an arena of watches, and what is true of these.
use Rattle.std.specs.Prelude.{◌≡◌, ℕ, zero, suc, ◌<◌, ◌≤◌, Bool, true, false, List, [], ◌∷◌, length, nat_eq, count_by, slice_index_or, slice_set, if◌then◌else◌, Option, Some, None, IsSome, Contains}
use Rattle.std.specs.List.{list_any}
use Rattle.lv_base.specs.declared.ids.Lit.{Lit}
use Rattle.lv_base.specs.declared.ids.ClauseId.{ClauseId}
use Rattle.lv_clauses.specs.Literals.{neg, same_var}
use Rattle.lv_clauses.specs.ClauseMap.{Slots, clause_at}
use Rattle.lv_clauses.specs.Marks.{Marks, is_marked, is_free}
use Rattle.lv_ltms.specs.declared.watchers.Next.{Next}
use Rattle.lv_ltms.specs.declared.watchers.Watch.{Watch}
use Rattle.lv_ltms.specs.Trail.{same_lit}

-- the clause of the number before this one, 0 for none
abbrev pub clause_before : ℕ → Option ClauseId
clause_before zero = None
clause_before (suc n) = Some (record { 0 = n })

abbrev pub clause_of : Next → Option ClauseId
clause_of n = clause_before n.0

abbrev pub next_of : Option ClauseId → Next
next_of None = record { 0 = 0 }
next_of (Some id) = record { 0 = suc id.0 }

-- the first clause of each boolean's true literal, that of its false literal, and the watch of each clause
pub record Rows : Type 0 where
  pub of_true : List Next
  pub of_false : List Next
  pub watches : List Watch

abbrev pub heads_of : Rows → Bool → List Next
heads_of rows true = rows.of_true
heads_of rows false = rows.of_false

abbrev pub last : Next
last = record { 0 = 0 }

abbrev pub head_at : Rows → Lit → Next
head_at rows l = slice_index_or (heads_of rows l.sign) l.var.0 last

-- the first clause that watches the literal
abbrev pub head_of : Rows → Lit → Option ClauseId
head_of rows l = clause_of (head_at rows l)

-- what stands in the place of a clause that watches nothing
abbrev pub blank : Watch
blank = record { lit = record { var = record { 0 = 0 }; sign = false }; next = last }

abbrev pub watch_at : Rows → ℕ → Watch
watch_at rows id = slice_index_or rows.watches id blank

-- the literal that the clause of this number watches
abbrev pub lit_at : Rows → ℕ → Lit
lit_at rows id = (watch_at rows id).lit

abbrev pub next_at : Rows → ℕ → Option ClauseId
next_at rows id = clause_of (watch_at rows id).next

abbrev pub with_head_of : Rows → Bool → ℕ → Next → Rows
with_head_of rows true v first = record { of_true = slice_set rows.of_true v first; of_false = rows.of_false; watches = rows.watches }
with_head_of rows false v first = record { of_true = rows.of_true; of_false = slice_set rows.of_false v first; watches = rows.watches }

-- the rows with another first clause of the literal
abbrev pub with_head : Rows → Lit → Option ClauseId → Rows
with_head rows l first = with_head_of rows l.sign l.var.0 (next_of first)

-- the rows with the clause at the head of the literal's list
abbrev pub with_watch : Rows → ClauseId → Lit → Rows
with_watch rows id l =
    with_head (record { of_true = rows.of_true; of_false = rows.of_false; watches = slice_set rows.watches id.0 (record { lit = l; next = head_at rows l }) }) l (Some id)

-- there is as much room or more, and all that is watched is as it was
pub record Fits (old new : Rows) : Type 0 where
  pub more : length old.watches ≤ length new.watches
  pub same : (i : ℕ) → watch_at new i ≡ watch_at old i
  pub of_true : new.of_true ≡ old.of_true
  pub of_false : new.of_false ≡ old.of_false

abbrev pub has_number : ℕ → ClauseId → Bool
has_number id i = nat_eq i.0 id

-- how often the number stands in the list
abbrev pub times_in : List ClauseId → ℕ → ℕ
times_in ids id = count_by (has_number id) ids

-- going from the start one comes along just these clauses
abbrev pub IsRow : (ℕ → Option ClauseId) → Option ClauseId → List ClauseId → Type 0
IsRow next start [] = start ≡ None
IsRow next start (id ∷ ids) = (start ≡ Some id) × IsRow next (next id.0) ids

-- once where a clause of some literal is there that watches this one
abbrev pub watch_count : Option (List Lit) → Lit → Lit → ℕ
watch_count None w l = 0
watch_count (Some []) w l = 0
watch_count (Some (m ∷ ms)) w l = if same_lit w l then 1 else 0

-- each clause that is there and has a literal stands in the list of the one that it watches, once, and in no other
pub record IsThreaded (rows : Rows) (slots : Slots) (bools : ℕ) : Type 0 where
  pub list : Lit → List ClauseId
  pub row : (l : Lit) → IsRow (next_at rows) (head_of rows l) (list l)
  pub exact : (l : Lit) (id : ℕ) → times_in (list l) id ≡ watch_count (clause_at slots id) (lit_at rows id) l
  pub of_true : length rows.of_true ≡ bools
  pub of_false : length rows.of_false ≡ bools
  pub room : (id : ℕ) → IsSome (clause_at slots id) → id < length rows.watches

-- each list of this side ends, and has no number twice, and of each number the watches of both sides are there
pub record AreRows (near far : Rows) : Type 0 where
  pub list : Lit → List ClauseId
  pub row : (l : Lit) → IsRow (next_at near) (head_of near l) (list l)
  pub once : (l : Lit) (id : ℕ) → times_in (list l) id ≤ 1
  pub near_room : (l : Lit) (id : ClauseId) → Contains (list l) id → id.0 < length near.watches
  pub far_room : (l : Lit) (id : ClauseId) → Contains (list l) id → id.0 < length far.watches

-- the number is in the list of the literal
abbrev pub InRow : Rows → Lit → ClauseId → Type 0
InRow rows l id = (ids : List ClauseId) → IsRow (next_at rows) (head_of rows l) ids → Contains ids id

-- of each number in the list of the literal this holds
abbrev pub AllInRow : Rows → Lit → (ClauseId → Type 0) → Type 0
AllInRow rows l holds = (ids : List ClauseId) (id : ClauseId) → IsRow (next_at rows) (head_of rows l) ids → Contains ids id → holds id

-- the literal is one of these
abbrev pub has_lit : List Lit → Lit → Bool
has_lit ls l = list_any (λ f. same_lit f l) ls

-- the boolean of the literal is one of theirs
abbrev pub is_fallen : List Lit → Lit → Bool
is_fallen fallen l = list_any (λ f. same_var f l) fallen

-- each clause that has a literal has this one
pub record AreMembers (slots : Slots) (lits : ℕ → Lit) : Type 0 where
  pub member : (id : ℕ) (c : List Lit) (m : Lit) → clause_at slots id ≡ Some c → Contains c m → Contains c (lits id)

-- a literal that a clause watches, with the other one: the two are one only in a clause of one literal; and where the
-- first is false, the other is true, or fell
pub record IsGuarded (c : List Lit) (w o : Lit) (truth : Lit → Bool) (marks : Marks) (fallen : List Lit) : Type 0 where
  pub member : Contains c w
  pub lone : w ≡ o → (m : Lit) → Contains c m → m ≡ w
  pub held : truth (neg w) ≡ true → has_lit fallen o ≡ false → is_marked marks o ≡ true

-- each clause that has a literal guards the one that it watches on this side
pub record AreGuarded (slots : Slots) (near far : ℕ → Lit) (truth : Lit → Bool) (marks : Marks) (fallen : List Lit) : Type 0 where
  pub guarded : (id : ℕ) (c : List Lit) (m : Lit) → clause_at slots id ≡ Some c → Contains c m → IsGuarded c (near id) (far id) truth marks fallen

-- the boolean of a clause of one literal is marked, or fell
pub record AreSettled (slots : Slots) (near far : ℕ → Lit) (marks : Marks) (fallen : List Lit) : Type 0 where
  pub settled : (id : ℕ) (c : List Lit) (m : Lit) → clause_at slots id ≡ Some c → Contains c m → near id ≡ far id → is_fallen fallen (near id) ≡ false → is_free marks (near id) ≡ false

-- both sides are guarded, each as far as it was looked at, and the clauses of one literal are settled
pub record IsWatching (slots : Slots) (near far : ℕ → Lit) (truth other : Lit → Bool) (marks : Marks) (fallen : List Lit) : Type 0 where
  pub near_side : AreGuarded slots near far truth marks fallen
  pub far_side : AreGuarded slots far near other marks fallen
  pub settled : AreSettled slots near far marks fallen
