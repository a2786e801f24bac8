-- Choices at slots, and which candidates contain a list of them.
use Rattle.std.specs.Prelude.{ℕ, ◌+◌, Bool, true, nat_lt, nat_eq, ◌&&◌, List, [], ◌∷◌, length, slice_index}
use Rattle.std.specs.List.{list_all}
use Rattle.lv_base.specs.declared.search.Pair.{Pair}

-- the list has this choice at this slot
abbrev pub picks : List ℕ → Pair → Bool
picks choices p = nat_lt p.slot (length choices) && nat_eq (slice_index choices p.slot) p.choice

-- the list has each of these choices
abbrev pub contains_all : List ℕ → List Pair → Bool
contains_all choices pairs = list_all (picks choices) pairs

abbrev pub slots_rise_from : ℕ → List Pair → Bool
slots_rise_from low [] = true
slots_rise_from low (p ∷ ps) = nat_lt low (p.slot + 1) && slots_rise_from (p.slot + 1) ps

-- each slot is above the one before
abbrev pub slots_rise : List Pair → Bool
slots_rise pairs = slots_rise_from 0 pairs

-- the choices, the first of which is that of this slot, as pairs
abbrev pub pairs_from : ℕ → List ℕ → List Pair
pairs_from slot [] = []
pairs_from slot (c ∷ cs) = record { slot = slot; choice = c } ∷ pairs_from (slot + 1) cs

-- all choices as pairs
abbrev pub pairs_of : List ℕ → List Pair
pairs_of choices = pairs_from 0 choices
