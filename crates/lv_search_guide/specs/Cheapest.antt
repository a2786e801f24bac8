-- What the search for a cheapest free member of a box comes to, and what holds in its course.
use Rattle.std.specs.Prelude.{◌≡◌, ℕ, ◌+◌, ◌*◌, ◌^◌, ◌<◌, ◌≤◌, ◌⊎◌, Bool, true, false, not, nat_lt, ◌&&◌, List, [], ◌∷◌, ◌++◌, length, sum, take, Option, Some, None, option_to_list}
use Rattle.std.specs.List.{list_any, sum_by}
use Rattle.lv_base.specs.declared.ids.Cost.{Cost}
use Rattle.lv_base.specs.declared.search.Pair.{Pair}
use Rattle.lv_base.specs.Choices.{picks, contains_all}
use Rattle.lv_base.specs.Order.{comes_before}
use Rattle.lv_boxes.specs.Members.{are_left, choices_cost}
use Rattle.lv_boxes.specs.Parts.{masks_with, masks_without}
use Rattle.lv_search_bans.specs.Boxes.{is_free, is_open, CostsAtLeast}
use Rattle.lv_search_guide.specs.Dear.{KeepsUnder}
use Rattle.lv_search_guide.specs.declared.look.Member.{Member}
use Rattle.lv_search_guide.specs.declared.look.Looked.{Looked}
use Rattle.lv_search_guide.specs.declared.look.Looked.TheVariants.{Nothing, Found, Splits}
use Rattle.lv_search_guide.specs.declared.cheapest.Best.{Best}
use Rattle.lv_search_guide.specs.declared.cheapest.Branch.{Branch}

-- a member of the box, whatever the conflicts, that costs least, and none as cheap comes before it
pub record IsCheapestLeft (slots : List (List Cost)) (masks : List ℕ) (member : Member) : Type 0 where
  pub left : are_left slots masks member.choices ≡ true
  pub costs : choices_cost slots member.choices ≡ member.cost
  pub least : (choices : List ℕ) → are_left slots masks choices ≡ true → member.cost ≤ choices_cost slots choices
  pub first : (choices : List ℕ) → are_left slots masks choices ≡ true → choices_cost slots choices ≡ member.cost → comes_before choices member.choices ≡ false
  pub bound : member.cost ≤ 4096 * 1000000

-- the box has no members
pub record HasNoneLeft (slots : List (List Cost)) (masks : List ℕ) : Type 0 where
  pub none : (choices : List ℕ) → are_left slots masks choices ≡ false

abbrev pub CheapestLeftTells : List (List Cost) → List ℕ → Option Member → Type 0
CheapestLeftTells slots masks None = HasNoneLeft slots masks
CheapestLeftTells slots masks (Some member) = IsCheapestLeft slots masks member

-- a free member of the box, and none costs less
pub record IsCheapest (slots : List (List Cost)) (conflicts : List (List Pair)) (masks : List ℕ) (member : Member) : Type 0 where
  pub free : is_free slots conflicts masks member.choices ≡ true
  pub costs : choices_cost slots member.choices ≡ member.cost
  pub least : CostsAtLeast slots conflicts masks member.cost

pub record IsCheapestUnder (slots : List (List Cost)) (conflicts : List (List Pair)) (masks : List ℕ) (under : ℕ) (member : Member) : Type 0 where
  pub cheapest : IsCheapest slots conflicts masks member
  pub below : member.cost < under

-- and no other that is as cheap comes before it
pub record IsFirstUnder (slots : List (List Cost)) (conflicts : List (List Pair)) (masks : List ℕ) (under : ℕ) (member : Member) : Type 0 where
  pub found : IsCheapestUnder slots conflicts masks under member
  pub first : (others : List ℕ) → is_free slots conflicts masks others ≡ true → choices_cost slots others ≡ member.cost → comes_before others member.choices ≡ false

-- a cheapest free member, where one costs less than this
abbrev pub CheapestTells : List (List Cost) → List (List Pair) → List ℕ → ℕ → Option Member → Type 0
CheapestTells slots conflicts masks under None = CostsAtLeast slots conflicts masks under
CheapestTells slots conflicts masks under (Some member) = IsCheapestUnder slots conflicts masks under member

-- the box falls into two smaller ones, with the pair's choice and without it
pub record FallsApart (masks : List ℕ) (p : Pair) : Type 0 where
  pub within : p.slot < length masks
  pub with_less : sum (masks_with masks p) < sum masks
  pub without_less : sum (masks_without masks p) < sum masks

abbrev pub LookTells : List (List Cost) → List (List Pair) → List ℕ → ℕ → Looked → Type 0
LookTells slots conflicts masks under Nothing = CostsAtLeast slots conflicts masks under
LookTells slots conflicts masks under (Found member) = IsFirstUnder slots conflicts masks under member
LookTells slots conflicts masks under (Splits p) = FallsApart masks p

-- one of these pairs whose choice is not all that its slot has left
pub record IsOpenIn (masks : List ℕ) (pairs : List Pair) (p : Pair) : Type 0 where
  pub opens : is_open masks p ≡ true
  pub inside : (choices : List ℕ) → contains_all choices pairs ≡ true → picks choices p ≡ true

-- of the first of these pairs, so many, none has such a choice
abbrev pub OpenTells : List ℕ → List Pair → ℕ → Option Pair → Type 0
OpenTells masks pairs n None = list_any (is_open masks) (take n pairs) ≡ false
OpenTells masks pairs n (Some p) = IsOpenIn masks pairs p

-- by an open pair, where there is one
abbrev pub SplitTells : List ℕ → List Pair → Looked → Type 0
SplitTells masks pairs Nothing = list_any (is_open masks) pairs ≡ false
SplitTells masks pairs (Found member) = ⊥
SplitTells masks pairs (Splits p) = IsOpenIn masks pairs p

-- what of a box is left to look at: each free member that costs less than this is in it, and it has no others
pub record IsBranchOf (slots : List (List Cost)) (conflicts : List (List Pair)) (masks : List ℕ) (under : ℕ) (branch : Branch) : Type 0 where
  pub keeps : KeepsUnder slots conflicts under masks branch.masks
  pub low : CostsAtLeast slots conflicts branch.masks branch.low
  pub below : branch.low < under

abbrev pub BranchTells : List (List Cost) → List (List Pair) → List ℕ → ℕ → Option Branch → Type 0
BranchTells slots conflicts masks under None = CostsAtLeast slots conflicts masks under
BranchTells slots conflicts masks under (Some branch) = IsBranchOf slots conflicts masks under branch

-- some of the boxes has it as a free member
abbrev pub is_free_in_some : List (List Cost) → List (List Pair) → List Branch → List ℕ → Bool
is_free_in_some slots conflicts boxes choices = list_any (λ (b : Branch). is_free slots conflicts b.masks choices) boxes

-- and it costs no less there than is known of the box
abbrev pub is_sought_in_some : List (List Cost) → List (List Pair) → List Branch → List ℕ → Bool
is_sought_in_some slots conflicts boxes choices = list_any (λ (b : Branch). is_free slots conflicts b.masks choices && not (nat_lt (choices_cost slots choices) b.low)) boxes

-- what was found is a free member of the whole, and what others have to cost less than is what it costs
pub record IsBest (slots : List (List Cost)) (conflicts : List (List Pair)) (whole : List ℕ) (under now : ℕ) (member : Member) : Type 0 where
  pub free : is_free slots conflicts whole member.choices ≡ true
  pub costs : choices_cost slots member.choices ≡ member.cost
  pub is : member.cost ≡ now
  pub below : now < under

abbrev pub BestTells : List (List Cost) → List (List Pair) → List ℕ → ℕ → ℕ → Option Member → Type 0
BestTells slots conflicts whole under now None = now ≡ under
BestTells slots conflicts whole under now (Some member) = IsBest slots conflicts whole under now member

-- a free member of the whole that costs less than what was found is in some box that is left
pub record IsUnderWay (slots : List (List Cost)) (conflicts : List (List Pair)) (whole : List ℕ) (under : ℕ) (best : Best) (boxes : List Branch) : Type 0 where
  pub found : BestTells slots conflicts whole under best.under best.member
  pub rest : (choices : List ℕ) → is_free slots conflicts whole choices ≡ true → choices_cost slots choices < best.under → is_sought_in_some slots conflicts boxes choices ≡ true
  pub inside : (choices : List ℕ) → is_free_in_some slots conflicts boxes choices ≡ true → is_free slots conflicts whole choices ≡ true

-- how much there is to look at, at most: two boxes smaller than a third weigh less than it does
abbrev pub weight_of : List Branch → ℕ
weight_of boxes = sum_by (λ (b : Branch). 3 ^ sum b.masks) boxes

-- both, in one order or the other
abbrev pub PushesBoth : Option Branch → Option Branch → List Branch → List Branch → Type 0
PushesBoth one other old new = (new ≡ (old ++ option_to_list one) ++ option_to_list other) ⊎ (new ≡ (old ++ option_to_list other) ++ option_to_list one)

-- what is looked for in the box is looked for in those put in its place
pub record PushesParts (slots : List (List Cost)) (conflicts : List (List Pair)) (masks : List ℕ) (under : ℕ) (old new : List Branch) : Type 0 where
  pub kept : (choices : List ℕ) → is_sought_in_some slots conflicts old choices ≡ true → is_sought_in_some slots conflicts new choices ≡ true
  pub rest : (choices : List ℕ) → is_free slots conflicts masks choices ≡ true → choices_cost slots choices < under → is_sought_in_some slots conflicts new choices ≡ true
  pub inside : (choices : List ℕ) → is_free_in_some slots conflicts new choices ≡ true → (is_free_in_some slots conflicts old choices ≡ true) ⊎ (is_free slots conflicts masks choices ≡ true)
  pub lighter : weight_of new < weight_of old + 3 ^ sum masks

-- one box less is under way
pub record TakesBox (slots : List (List Cost)) (conflicts : List (List Pair)) (next : Branch) (old : Best) (boxes : List Branch) (new : Best) (left : List Branch) : Type 0 where
  pub goes_on : (whole : List ℕ) (under : ℕ) → IsUnderWay slots conflicts whole under old (boxes ++ next ∷ []) → IsUnderWay slots conflicts whole under new left
  pub lighter : weight_of left < weight_of (boxes ++ next ∷ [])
