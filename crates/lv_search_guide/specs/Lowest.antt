-- Of the free members of a box that cost least the first in the order of slots, and what holds in the course of looking for it.
use Rattle.std.specs.Prelude.{◌≡◌, ℕ, ◌≤◌, true, false, List, slice_index, take, Option, Some, None}
use Rattle.lv_base.specs.declared.ids.Cost.{Cost}
use Rattle.lv_base.specs.declared.search.Pair.{Pair}
use Rattle.lv_base.specs.Choices.{picks}
use Rattle.lv_base.specs.Order.{comes_before}
use Rattle.lv_boxes.specs.Members.{are_left, choices_cost}
use Rattle.lv_search_bans.specs.Boxes.{is_free, HasNone}
use Rattle.lv_search_guide.specs.Cheapest.{IsCheapest}
use Rattle.lv_search_guide.specs.declared.look.Member.{Member}

-- a cheapest free member, and none as cheap comes before it
pub record IsLowest (slots : List (List Cost)) (conflicts : List (List Pair)) (masks : List ℕ) (member : Member) : Type 0 where
  pub cheapest : IsCheapest slots conflicts masks member
  pub first : (others : List ℕ) → is_free slots conflicts masks others ≡ true → choices_cost slots others ≡ member.cost → comes_before others member.choices ≡ false

abbrev pub LowestTells : List (List Cost) → List (List Pair) → List ℕ → Option Member → Type 0
LowestTells slots conflicts masks None = HasNone slots conflicts masks
LowestTells slots conflicts masks (Some member) = IsLowest slots conflicts masks member

-- no free member of this cost has the pair's choice
pub record NoneHas (slots : List (List Cost)) (conflicts : List (List Pair)) (masks : List ℕ) (p : Pair) (cost : ℕ) : Type 0 where
  pub none : (others : List ℕ) → is_free slots conflicts masks others ≡ true → picks others p ≡ true → choices_cost slots others ≡ cost → ⊥

-- a free member of this cost that has the pair's choice
pub record OneHas (slots : List (List Cost)) (conflicts : List (List Pair)) (masks : List ℕ) (p : Pair) (cost : ℕ) (choices : List ℕ) : Type 0 where
  pub free : is_free slots conflicts masks choices ≡ true
  pub costs : choices_cost slots choices ≡ cost
  pub has : picks choices p ≡ true

abbrev pub HasTells : List (List Cost) → List (List Pair) → List ℕ → Pair → ℕ → Option (List ℕ) → Type 0
HasTells slots conflicts masks p cost None = NoneHas slots conflicts masks p cost
HasTells slots conflicts masks p cost (Some choices) = OneHas slots conflicts masks p cost choices

-- no free member of this cost has a choice below this one at the slot
pub record NoneBelow (slots : List (List Cost)) (conflicts : List (List Pair)) (masks : List ℕ) (slot below cost : ℕ) : Type 0 where
  pub none : (others : List ℕ) → is_free slots conflicts masks others ≡ true → choices_cost slots others ≡ cost → below ≤ slice_index others slot

-- a free member of this cost, and none of this cost has a choice below its own at the slot
pub record IsFirstAt (slots : List (List Cost)) (conflicts : List (List Pair)) (masks : List ℕ) (slot cost : ℕ) (choices : List ℕ) : Type 0 where
  pub free : is_free slots conflicts masks choices ≡ true
  pub costs : choices_cost slots choices ≡ cost
  pub first : NoneBelow slots conflicts masks slot (slice_index choices slot) cost

abbrev pub LowerTells : List (List Cost) → List (List Pair) → List ℕ → ℕ → ℕ → ℕ → Option (List ℕ) → Type 0
LowerTells slots conflicts masks slot below cost None = NoneBelow slots conflicts masks slot below cost
LowerTells slots conflicts masks slot below cost (Some choices) = IsFirstAt slots conflicts masks slot cost choices

-- of the whole the part in which the slots before this one have the choices of the first of this cost: any free member of the cost that
-- it leaves out comes after all that it has
pub record IsNarrowed (slots : List (List Cost)) (conflicts : List (List Pair)) (whole : List ℕ) (cost slot : ℕ) (part choices : List ℕ) : Type 0 where
  pub free : is_free slots conflicts part choices ≡ true
  pub costs : choices_cost slots choices ≡ cost
  pub inside : (others : List ℕ) → is_free slots conflicts part others ≡ true → is_free slots conflicts whole others ≡ true
  pub alike : (one other : List ℕ) → are_left slots part one ≡ true → are_left slots part other ≡ true → take slot one ≡ take slot other
  pub after : (others : List ℕ) → is_free slots conflicts whole others ≡ true → choices_cost slots others ≡ cost → is_free slots conflicts part others ≡ false
      → (one : List ℕ) → are_left slots part one ≡ true → comes_before one others ≡ true
