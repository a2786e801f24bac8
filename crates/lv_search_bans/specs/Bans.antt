-- Bans: at each of some slots choices that can't stand together. What bans rule out some conflicts do.
use Rattle.std.specs.Prelude.{◌≡◌, ℕ, zero, suc, ◌+◌, Bool, true, nat_lt, bit_and, bit_xor, ◌&&◌, ◌||◌, List, [], ◌∷◌, length, slice_index, slice_set}
use Rattle.std.specs.List.{list_all, list_any}
use Rattle.lv_base.specs.declared.search.Pair.{Pair}
use Rattle.lv_boxes.specs.Masks.{has_choice, only_choice}
use Rattle.lv_boxes.specs.Walk.{is_ruled_out}
use Rattle.lv_search_bans.specs.declared.bans.Choices.{Choices}

-- of a mask the choices that are not among these
abbrev pub without_these : ℕ → ℕ → ℕ
without_these mask these = bit_xor mask (bit_and mask these)

-- a box without these choices of their slot
abbrev pub masks_less : List ℕ → Choices → List ℕ
masks_less masks set = slice_set masks set.slot (without_these (slice_index masks set.slot) set.mask)

-- the choices have one of these at their slot
abbrev pub has_some : List ℕ → Choices → Bool
has_some choices set = nat_lt set.slot (length choices) && has_choice set.mask (slice_index choices set.slot)

-- and one of each of these
abbrev pub meets : List ℕ → List Choices → Bool
meets choices sets = list_all (has_some choices) sets

abbrev pub is_banned : List (List Choices) → List ℕ → Bool
is_banned bans choices = list_any (meets choices) bans

abbrev pub sets_rise_from : ℕ → List Choices → Bool
sets_rise_from low [] = true
sets_rise_from low (s ∷ ss) = nat_lt low (s.slot + 1) && sets_rise_from (s.slot + 1) ss

-- each slot is above the one before
abbrev pub sets_rise : List Choices → Bool
sets_rise sets = sets_rise_from 0 sets

-- what the bans rule out the conflicts do
pub record AreBans (conflicts : List (List Pair)) (bans : List (List Choices)) : Type 0 where
  pub barred : (choices : List ℕ) → is_banned bans choices ≡ true → is_ruled_out conflicts choices ≡ true

-- the pair's choice alone
abbrev pub set_of : Pair → Choices
set_of p = record { slot = p.slot; mask = only_choice 18446744073709551615 p.choice }

-- one and the other are the same but for the choices at this place
abbrev pub IsAlikeBut : ℕ → List Choices → List Choices → Type 0
IsAlikeBut zero (a ∷ one) (b ∷ other) = (a.slot ≡ b.slot) × (one ≡ other)
IsAlikeBut (suc i) (a ∷ one) (b ∷ other) = (a ≡ b) × IsAlikeBut i one other
IsAlikeBut _ _ _ = ⊥

-- choices that have one of each of the new have one of each of the old or of these
pub record TakesIn (old sets new : List Choices) : Type 0 where
  pub either : (choices : List ℕ) → meets choices new ≡ true → (meets choices old || meets choices sets) ≡ true

-- the bans rule out no more than those before and one that has these
pub record HasOneMore (old : List (List Choices)) (sets : List Choices) (new : List (List Choices)) : Type 0 where
  pub either : (choices : List ℕ) → is_banned new choices ≡ true → (is_banned old choices || meets choices sets) ≡ true
