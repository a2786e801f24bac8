-- Boxes that keep the first member, and the choices behind a loose one, without which a box does.
use Rattle.std.specs.Prelude.{◌≡◌, ℕ, ◌<◌, ◌≤◌, Bool, true, false, not, nat_lt, nat_eq, ◌&&◌, ◌||◌, List, length, slice_set, sum, Option, Some, None}
use Rattle.std.specs.List.{list_all}
use Rattle.lv_base.specs.declared.ids.Cost.{Cost}
use Rattle.lv_base.specs.declared.search.Pair.{Pair}
use Rattle.lv_boxes.specs.Masks.{has_choice}
use Rattle.lv_boxes.specs.Members.{are_left, choice_cost}
use Rattle.lv_boxes.specs.Walk.{is_ruled_out}
use Rattle.lv_search_bans.specs.Boxes.{has_left, HasNone}
use Rattle.lv_search_guide.specs.Lowest.{LowestTells}
use Rattle.lv_search_guide.specs.declared.look.Member.{Member}

-- members of the new box are members of the old one, and what is first of the new is first of the old
pub record KeepsFirst (slots : List (List Cost)) (conflicts : List (List Pair)) (old new : List ℕ) : Type 0 where
  pub inside : (rows : List (List Cost)) (choices : List ℕ) → are_left rows new choices ≡ true → are_left rows old choices ≡ true
  pub first : (answer : Option Member) → LowestTells slots conflicts new answer → LowestTells slots conflicts old answer

-- with fewer choices
pub record KeepsFirstOfLess (slots : List (List Cost)) (conflicts : List (List Pair)) (old new : List ℕ) : Type 0 where
  pub keeps : KeepsFirst slots conflicts old new
  pub less : sum new < sum old

-- whether choices were taken out
abbrev pub DropsTells : List (List Cost) → List (List Pair) → List ℕ → List ℕ → Bool → Type 0
DropsTells slots conflicts old new true = KeepsFirstOfLess slots conflicts old new
DropsTells slots conflicts old new false = new ≡ old

-- a list of choices that contains no conflict contains none with one of these choices in its place, as far as it is left
pub record AreLoose (conflicts : List (List Pair)) (masks loose : List ℕ) : Type 0 where
  pub stays : (slots : List (List Cost)) (choices : List ℕ) (p : Pair) → has_left loose p ≡ true → are_left slots masks (slice_set choices p.slot p.choice) ≡ true
      → is_ruled_out conflicts choices ≡ false → is_ruled_out conflicts (slice_set choices p.slot p.choice) ≡ false

-- a choice of these costs ranks before another
abbrev pub ranks_first : List Cost → ℕ → ℕ → Bool
ranks_first costs one other = nat_lt (choice_cost costs one) (choice_cost costs other) || nat_eq (choice_cost costs one) (choice_cost costs other) && nat_lt one other

-- of a slot's choices left those were taken out that this one ranks before
pub record IsKeptBefore (costs : List Cost) (first mask kept : ℕ) : Type 0 where
  pub some : has_choice kept first ≡ true
  pub inside : (choice : ℕ) → has_choice kept choice ≡ true → has_choice mask choice ≡ true
  pub behind : (choice : ℕ) → has_choice mask choice ≡ true → has_choice kept choice ≡ false → ranks_first costs first choice ≡ true
  pub fewer : kept ≤ mask

-- a choice of the slot that is loose and left
pub record IsLooseLeft (costs : List Cost) (loose mask choice : ℕ) : Type 0 where
  pub within : nat_lt choice (length costs) ≡ true
  pub loose_too : has_choice loose choice ≡ true
  pub left : has_choice mask choice ≡ true

-- of a slot's choices left those were taken out that a loose one ranks before, or none
pub record IsKeptLoose (costs : List Cost) (loose mask kept : ℕ) : Type 0 where
  pub first : ℕ
  pub is : IsLooseLeft costs loose mask first
  pub kept_too : IsKeptBefore costs first mask kept

abbrev pub KeptTells : List Cost → ℕ → ℕ → Option ℕ → Type 0
KeptTells costs loose mask None = Unit {0}
KeptTells costs loose mask (Some kept) = IsKeptLoose costs loose mask kept

-- the pairs are two
abbrev pub are_apart : Pair → Pair → Bool
are_apart p q = not (nat_eq p.slot q.slot && nat_eq p.choice q.choice)

-- the new box has choices of the old one, and none of these
pub record TakesOut (pairs : List Pair) (old new : List ℕ) : Type 0 where
  pub inside : (p : Pair) → has_left new p ≡ true → has_left old p ≡ true
  pub apart : (p : Pair) → has_left new p ≡ true → list_all (are_apart p) pairs ≡ true

-- a box that keeps the first member, if the old one has free members
abbrev pub SettlesTells : List (List Cost) → List (List Pair) → List ℕ → Option (List ℕ) → Type 0
SettlesTells slots conflicts masks None = HasNone slots conflicts masks
SettlesTells slots conflicts masks (Some new) = KeepsFirst slots conflicts masks new
