-- Zones in a queue, each kept by the rank of a member, and what is left of their members where some conflicts are known.
use Rattle.std.specs.Prelude.{◌≡◌, ℕ, ◌+◌, ◌<◌, ◌≤◌, Bool, true, List, [], ◌∷◌, map, drop, if◌then◌else◌, Option, Some, None}
use Rattle.std.specs.List.{AllByRecursion}
use Rattle.lv_base.specs.declared.ids.Cost.{Cost}
use Rattle.lv_base.specs.declared.rank.Rank.{Rank}
use Rattle.lv_base.specs.declared.search.Pair.{Pair}
use Rattle.lv_boxes.specs.Members.{ZoneValue}
use Rattle.lv_boxes.specs.RankedMembers.{ranked_members, ranks_in, times_in, AreApart}
use Rattle.lv_guide.specs.Near.{IsFirstNear}
use Rattle.lv_guide.specs.Beside.{IsFirstBySome}
use Rattle.lv_search.specs.Frontier.{LeavesOut}
use Rattle.lv_search.specs.Free.{is_free_rank, free_of}

-- the zones in the queue
abbrev pub zones_in : List (Rank × ZoneValue) → List ZoneValue
zones_in entries = map (λ e. e.1) entries

-- their members that contain no known conflict, in the order of their ranks
abbrev pub left_in : List (List Cost) → List (List Pair) → List (Rank × ZoneValue) → List Rank
left_in slots known entries = free_of known (ranked_members slots (zones_in entries))

-- a zone is kept by the rank of a member
abbrev pub IsKeyMember : List (List Cost) → Rank × ZoneValue → Type 0
IsKeyMember slots e = ranks_in slots e.0 e.1 ≡ true

-- which is the first that contains none of some of the known conflicts
abbrev pub IsKeyFirst : List (List Cost) → List (List Pair) → Rank × ZoneValue → Type 0
IsKeyFirst slots known e = IsFirstBySome slots e.1 known e.0

-- each zone is kept by the rank of a member, and no two share a member
pub record IsQueue (slots : List (List Cost)) (entries : List (Rank × ZoneValue)) : Type 0 where
  pub members : AllByRecursion (IsKeyMember slots) entries
  pub apart : AreApart slots (zones_in entries)

pub record AreKeptBy (slots : List (List Cost)) (known : List (List Pair)) (entries : List (Rank × ZoneValue)) : Type 0 where
  pub queue : IsQueue slots entries
  pub first : AllByRecursion (IsKeyFirst slots known) entries

-- the first zone, if there is one, is kept by a member that contains no known conflict
abbrev pub front_is_free : List (List Pair) → List (Rank × ZoneValue) → Bool
front_is_free known [] = true
front_is_free known (e ∷ es) = is_free_rank known e.0

pub record IsReady (slots : List (List Cost)) (known : List (List Pair)) (entries : List (Rank × ZoneValue)) : Type 0 where
  pub kept : AreKeptBy slots known entries
  pub front : front_is_free known entries ≡ true

-- the rank is that of the first member without a known conflict of a zone that has all choices of these, each on its own
abbrev pub AreNear : List (List Cost) → List (List Pair) → Rank → List ZoneValue → Type 0
AreNear slots known rank zones = AllByRecursion (λ zone. IsFirstNear slots zone known rank) zones

-- there is room for these zones
pub record HasRoomBy (slots : List (List Cost)) (more : List ZoneValue) (old : List (Rank × ZoneValue)) : Type 0 where
  pub queue : IsQueue slots old
  pub apart : (r : Rank) → times_in slots r (zones_in old) + times_in slots r more ≤ 1

-- there are these zones more, where they have members that contain no known conflict
pub record HasMoreBy (slots : List (List Cost)) (known : List (List Pair)) (more : List ZoneValue) (old new : List (Rank × ZoneValue)) : Type 0 where
  pub queue : IsQueue slots new
  pub most : (r : Rank) → times_in slots r (zones_in new) ≤ times_in slots r (zones_in old) + times_in slots r more
  pub times : (r : Rank) → is_free_rank known r ≡ true → times_in slots r (zones_in new) ≡ times_in slots r (zones_in old) + times_in slots r more
  pub first : AllByRecursion (IsKeyFirst slots known) old → AllByRecursion (IsKeyFirst slots known) new

-- and so whatever is known
abbrev pub HasMore : List (List Cost) → List ZoneValue → List (Rank × ZoneValue) → List (Rank × ZoneValue) → Type 0
HasMore slots more old new = (known : List (List Pair)) → HasMoreBy slots known more old new

-- the zones have the same members that contain no known conflict
pub record HasSameFree (slots : List (List Cost)) (known : List (List Pair)) (old new : List (Rank × ZoneValue)) : Type 0 where
  pub kept : AreKeptBy slots known new
  pub same : (r : Rank) → is_free_rank known r ≡ true → times_in slots r (zones_in new) ≡ times_in slots r (zones_in old)

-- how many zones are kept by a member that contains a known conflict
abbrev pub stale_in : List (List Pair) → List (Rank × ZoneValue) → ℕ
stale_in known [] = 0
stale_in known (e ∷ es) = (if is_free_rank known e.0 then 0 else 1) + stale_in known es

-- with fewer of them
pub record LooksAgain (slots : List (List Cost)) (known : List (List Pair)) (old new : List (Rank × ZoneValue)) : Type 0 where
  pub same : HasSameFree slots known old new
  pub fewer : stale_in known new < stale_in known old

-- the first is left out
pub record DropsFirst (slots : List (List Cost)) (known : List (List Pair)) (old new : List (Rank × ZoneValue)) : Type 0 where
  pub kept : AreKeptBy slots known new
  pub left : left_in slots known new ≡ drop 1 (left_in slots known old)

-- the first is left out, alone or with others that have its target
pub record DropsAlike (slots : List (List Cost)) (known : List (List Pair)) (groups : List (List ℕ)) (old new : List (Rank × ZoneValue)) : Type 0 where
  pub kept : AreKeptBy slots known new
  pub left : LeavesOut groups (left_in slots known old) (left_in slots known new)

-- these zones have the same members that contain no known conflict, and no two share a member
pub record IsWhole (slots : List (List Cost)) (known : List (List Pair)) (entries : List (Rank × ZoneValue)) (zones : List ZoneValue) : Type 0 where
  pub apart : AreApart slots zones
  pub same : (r : Rank) → is_free_rank known r ≡ true → times_in slots r (zones_in entries) ≡ times_in slots r zones

-- where zones are held
abbrev pub WholeTells : List (List Cost) → List (List Pair) → List (Rank × ZoneValue) → Option (List ZoneValue) → Type 0
WholeTells slots known entries None = Unit {0}
WholeTells slots known entries (Some zones) = IsWhole slots known entries zones

pub record IsGuide (slots : List (List Cost)) (known : List (List Pair)) (entries : List (Rank × ZoneValue)) (whole : Option (List ZoneValue)) : Type 0 where
  pub ready : IsReady slots known entries
  pub whole_is : WholeTells slots known entries whole
