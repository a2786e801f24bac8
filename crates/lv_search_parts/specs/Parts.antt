-- What a box leaves of conflicts, and the part of the box that some of them speak of.
use Rattle.std.specs.Prelude.{◌≡◌, ℕ, ◌<◌, Bool, true, false, nat_lt, nat_eq, ◌&&◌, ◌||◌, List, ◌∷◌, length, map, filter, slice_index}
use Rattle.std.specs.List.{list_all}
use Rattle.lv_base.specs.declared.ids.Cost.{Cost}
use Rattle.lv_base.specs.declared.search.Pair.{Pair}
use Rattle.lv_base.specs.Choices.{contains_all, slots_rise}
use Rattle.lv_boxes.specs.Masks.{has_choice, only_choice}
use Rattle.lv_boxes.specs.Members.{are_left}
use Rattle.lv_boxes.specs.Walk.{is_ruled_out}
use Rattle.lv_search_parts.specs.Slots.{is_marked, is_inside, is_outside, pair_in, place_of}

-- the box has the pair's choice
abbrev pub is_there : List ℕ → Pair → Bool
is_there masks p = nat_lt p.slot (length masks) && has_choice (slice_index masks p.slot) p.choice

-- the pair's choice is all that its slot has left
abbrev pub is_forced : List ℕ → Pair → Bool
is_forced masks p = nat_lt p.slot (length masks) && nat_eq (only_choice (slice_index masks p.slot) p.choice) (slice_index masks p.slot)

-- of the members of the box the same ones contain all of these pairs
pub record IsOpenOf (masks : List ℕ) (pairs left : List Pair) : Type 0 where
  pub rising : slots_rise left ≡ true
  pub same : (slots : List (List Cost)) (choices : List ℕ) → are_left slots masks choices ≡ true → contains_all choices left ≡ contains_all choices pairs

-- of the members of the box the same ones contain one of these conflicts
pub record IsLiveOf (conflicts : List (List Pair)) (masks : List ℕ) (live : List (List Pair)) : Type 0 where
  pub same : (slots : List (List Cost)) (choices : List ℕ) → are_left slots masks choices ≡ true → is_ruled_out live choices ≡ is_ruled_out conflicts choices

-- all slots of the pairs are marked, or none is
abbrev pub is_whole : List Bool → List Pair → Bool
is_whole marks pairs = is_inside marks pairs || is_outside marks pairs

-- no conflict joins slots that are marked to others
pub record IsPart (conflicts : List (List Pair)) (slots : ℕ) (marks : List Bool) : Type 0 where
  pub long : length marks ≡ slots
  pub whole : list_all (is_whole marks) conflicts ≡ true

-- and these pairs are all at slots that are marked
pub record IsPartWith (conflicts : List (List Pair)) (slots : ℕ) (pairs : List Pair) (marks : List Bool) : Type 0 where
  pub part : IsPart conflicts slots marks
  pub inside : is_inside marks pairs ≡ true

-- the conflicts inside, as those of the part
abbrev pub inner_of : List Bool → List (List Pair) → List (List Pair)
inner_of marks conflicts = map (λ pairs. map (pair_in marks) pairs) (filter (is_inside marks) conflicts)

-- the pair's slot is marked, and the part, which has these masks, has its choice
abbrev pub is_held : List Bool → List ℕ → Pair → Bool
is_held marks masks p = is_marked marks p.slot && is_there masks (pair_in marks p)

-- of each slot before this one, how many marked ones come before it
pub record ArePlaces (marks : List Bool) (slots : ℕ) (places : List ℕ) : Type 0 where
  pub long : length places ≡ slots
  pub each : (slot : ℕ) → slot < slots → slice_index places slot ≡ place_of marks slot

-- the masks with these choices alone at the slots that are marked
abbrev pub fixed : List Bool → List ℕ → List ℕ → List ℕ
fixed (true ∷ marks) (choice ∷ choices) (mask ∷ masks) = only_choice mask choice ∷ fixed marks choices masks
fixed (false ∷ marks) choices (mask ∷ masks) = mask ∷ fixed marks choices masks
fixed _ _ masks = masks
