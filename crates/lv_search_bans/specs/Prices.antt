-- Prices of the choices of each slot, and the bound that they leave of what a member without conflict costs.
use Rattle.std.specs.Prelude.{◌≡◌, ℕ, ◌+◌, ◌-◌, ◌<◌, ◌≤◌, Bool, true, false, min, List, [], ◌∷◌, length, slice_index, slice_index_or, slice_set, if◌then◌else◌, Option, Some, None}
use Rattle.lv_base.specs.declared.ids.Cost.{Cost}
use Rattle.lv_base.specs.declared.search.Pair.{Pair}
use Rattle.lv_boxes.specs.Masks.{has_choice}
use Rattle.lv_boxes.specs.Members.{are_left, choice_cost, choices_cost}
use Rattle.lv_search_bans.specs.declared.bans.Choices.{Choices}
use Rattle.lv_search_bans.specs.Bans.{without_these, meets}
use Rattle.lv_search_bans.specs.Boxes.{is_free}

-- a price, or so much less, as far as it goes
abbrev pub price_after : Bool → ℕ → ℕ → ℕ
price_after lowers by price = if lowers then price - by else price

-- the prices of the choices from n on, those that the mask has lowered
abbrev pub lowered_from : ℕ → ℕ → ℕ → List Cost → List Cost
lowered_from n mask by [] = []
lowered_from n mask by (price ∷ prices) = record { 0 = price_after (has_choice mask n) by price.0 } ∷ lowered_from (n + 1) mask by prices

-- the choices of the slot that the box has beside these
abbrev pub others_at : List ℕ → Choices → ℕ
others_at masks set = without_these (slice_index masks set.slot) set.mask

-- the prices with those of such choices lowered
abbrev pub lowered_at : List ℕ → ℕ → List (List Cost) → Choices → List (List Cost)
lowered_at masks by rows set = slice_set rows set.slot (lowered_from 0 (others_at masks set) by (slice_index_or rows set.slot []))

-- and so for each slot in turn
abbrev pub lowered_all : List ℕ → ℕ → List (List Cost) → List Choices → List (List Cost)
lowered_all masks by rows [] = rows
lowered_all masks by rows (s ∷ ss) = lowered_all masks by (lowered_at masks by rows s) ss

-- the lesser of two, or the second where there is no first
abbrev pub lesser_of : Option ℕ → ℕ → ℕ
lesser_of None price = price
lesser_of (Some least) price = min least price

-- a price that is no less than the least, where there is one
abbrev pub IsAtLeast : Option ℕ → ℕ → Type 0
IsAtLeast None price = ⊥
IsAtLeast (Some least) price = least ≤ price

-- each choice below n that the mask has is priced at the least or more, and what was no less than the old least is no less than the new
pub record LeastTells (prices : List Cost) (mask n : ℕ) (before least : Option ℕ) : Type 0 where
  pub each : (choice : ℕ) → choice < n → has_choice mask choice ≡ true → IsAtLeast least (choice_cost prices choice)
  pub weaker : (price : ℕ) → IsAtLeast before price → IsAtLeast least price

-- whatever breaks the ban at this slot is priced at the least or more
pub record FallsTo (masks : List ℕ) (rows : List (List Cost)) (least : Option ℕ) (set : Choices) : Type 0 where
  pub within : set.slot < length rows
  pub each : (choice : ℕ) → choice < length (slice_index_or rows set.slot []) → has_choice (others_at masks set) choice ≡ true → IsAtLeast least (choice_cost (slice_index_or rows set.slot []) choice)

abbrev pub FallsBy : List ℕ → List (List Cost) → ℕ → Choices → Type 0
FallsBy masks rows by set = FallsTo masks rows (Some by) set

-- the prices fit the same members, and one that breaks the ban is priced at that much less
pub record RaisesBy (masks : List ℕ) (sets : List Choices) (old new : List (List Cost)) (by : ℕ) : Type 0 where
  pub alike : (others choices : List ℕ) → are_left new others choices ≡ are_left old others choices
  pub broken : (choices : List ℕ) → are_left old masks choices ≡ true → meets choices sets ≡ false → choices_cost new choices + by ≤ choices_cost old choices

-- no free member has one of each of these
pub record BreaksEach (slots : List (List Cost)) (conflicts : List (List Pair)) (masks : List ℕ) (sets : List Choices) : Type 0 where
  pub breaks : (choices : List ℕ) → is_free slots conflicts masks choices ≡ true → meets choices sets ≡ false

-- bound and prices together never pass what a free member costs
pub record IsBound (slots : List (List Cost)) (conflicts : List (List Pair)) (masks : List ℕ) (low : ℕ) (rows : List (List Cost)) : Type 0 where
  pub alike : (others choices : List ℕ) → are_left rows others choices ≡ are_left slots others choices
  pub bound : (choices : List ℕ) → is_free slots conflicts masks choices ≡ true → low + choices_cost rows choices ≤ choices_cost slots choices
