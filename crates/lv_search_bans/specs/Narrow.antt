-- What conflicts leave of a box.
use Rattle.std.specs.Prelude.{◌≡◌, ℕ, ◌<◌, ◌≤◌, Bool, true, false, List, length, slice_index, sum, bit_and, Option, Some, None}
use Rattle.lv_base.specs.declared.ids.Cost.{Cost}
use Rattle.lv_base.specs.declared.search.Pair.{Pair}
use Rattle.lv_boxes.specs.Members.{are_left}
use Rattle.lv_boxes.specs.Walk.{is_ruled_out}
use Rattle.lv_search_bans.specs.declared.bans.Choices.{Choices}
use Rattle.lv_search_bans.specs.Bans.{without_these, has_some, meets}
use Rattle.lv_search_bans.specs.Boxes.{is_free, HasNone}
use Rattle.lv_search_bans.specs.declared.narrow.Stands.{Stands}
use Rattle.lv_search_bans.specs.declared.narrow.Stands.TheVariants.{Out, Forced, Open}
use Rattle.lv_search_bans.specs.declared.narrow.Left.{Left}
use Rattle.lv_search_bans.specs.declared.narrow.Left.TheVariants.{Broken, Last, Other}
use Rattle.lv_search_bans.specs.declared.narrow.Narrowing.{Narrowing}
use Rattle.lv_search_bans.specs.declared.narrow.Narrowing.TheVariants.{Same, Less, Empty}

-- these choices are all that their slot has left
pub record IsForced (masks : List ℕ) (set : Choices) : Type 0 where
  pub within : set.slot < length masks
  pub all : without_these (slice_index masks set.slot) set.mask ≡ 0

-- the slot has some of them
pub record IsThere (masks : List ℕ) (set : Choices) : Type 0 where
  pub within : set.slot < length masks
  pub has : bit_and (slice_index masks set.slot) set.mask ≡ 0 → ⊥

abbrev pub StandsTells : List ℕ → Choices → Stands → Type 0
StandsTells masks set Out = Unit {0}
StandsTells masks set Forced = IsForced masks set
StandsTells masks set Open = IsThere masks set

-- a member has one of these choices, where there are some
abbrev pub has_last : Option Choices → List ℕ → Bool
has_last None choices = true
has_last (Some set) choices = has_some choices set

-- each member that has one of the last has one of each
pub record LeavesLast (masks : List ℕ) (sets : List Choices) (last : Option Choices) : Type 0 where
  pub contains : (slots : List (List Cost)) (choices : List ℕ) → are_left slots masks choices ≡ true → has_last last choices ≡ true → meets choices sets ≡ true

pub record LeavesOne (masks : List ℕ) (sets : List Choices) (set : Choices) : Type 0 where
  pub leaves : LeavesLast masks sets (Some set)
  pub there : IsThere masks set

abbrev pub LeftTells : List ℕ → List Choices → Left → Type 0
LeftTells masks sets Broken = LeavesLast masks sets None
LeftTells masks sets (Last set) = LeavesOne masks sets set
LeftTells masks sets Other = Unit {0}

-- the members without conflict are the same ones in both boxes, and no member is new
pub record HasSameFree (conflicts : List (List Pair)) (old new : List ℕ) : Type 0 where
  pub same : (slots : List (List Cost)) (choices : List ℕ) → is_free slots conflicts new choices ≡ is_free slots conflicts old choices
  pub inside : (slots : List (List Cost)) (choices : List ℕ) → are_left slots new choices ≡ true → are_left slots old choices ≡ true

-- with fewer choices
pub record IsLessBy (conflicts : List (List Pair)) (old new : List ℕ) : Type 0 where
  pub free : HasSameFree conflicts old new
  pub less : sum new < sum old

pub record IsNoMoreBy (conflicts : List (List Pair)) (old new : List ℕ) : Type 0 where
  pub free : HasSameFree conflicts old new
  pub less : sum new ≤ sum old

-- every member contains a conflict
pub record HasNoneBy (conflicts : List (List Pair)) (masks : List ℕ) : Type 0 where
  pub none : (slots : List (List Cost)) → HasNone slots conflicts masks

abbrev pub NarrowsTells : List (List Pair) → List ℕ → List ℕ → Narrowing → Type 0
NarrowsTells conflicts old new Same = new ≡ old
NarrowsTells conflicts old new Less = IsLessBy conflicts old new
NarrowsTells conflicts old new Empty = HasNoneBy conflicts old

-- and so by any conflicts that rule out what has one of each of these
abbrev pub RulesOut : List (List Pair) → List Choices → Type 0
RulesOut conflicts sets = (choices : List ℕ) → meets choices sets ≡ true → is_ruled_out conflicts choices ≡ true

abbrev pub TakesOutTells : List Choices → List ℕ → List ℕ → Narrowing → Type 0
TakesOutTells sets old new narrowing = (conflicts : List (List Pair)) → RulesOut conflicts sets → NarrowsTells conflicts old new narrowing

-- whether a choice was taken out so far
abbrev pub ChangedTells : List (List Pair) → List ℕ → List ℕ → Bool → Type 0
ChangedTells conflicts old new true = IsLessBy conflicts old new
ChangedTells conflicts old new false = new ≡ old

abbrev pub NarrowedTells : List (List Pair) → List ℕ → List ℕ → Bool → Type 0
NarrowedTells conflicts old new true = IsNoMoreBy conflicts old new
NarrowedTells conflicts old new false = HasNoneBy conflicts old
