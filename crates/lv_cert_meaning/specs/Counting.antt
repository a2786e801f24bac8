-- Things of a plant by their numbers in a certificate, which count from 1. Here they have the places that count from 0.
use Rattle.std.specs.Prelude.{ℕ, ◌-◌, Bool, true, false, nat_lt, nat_le, ◌&&◌, List, [], ◌∷◌, length, map, Option, Some, None, slice_get, slice_index_or, if◌then◌else◌}
use Rattle.lv_model_names.specs.lv_base.declared.ids.ValId.{ValId}
use Rattle.lv_model_names.specs.lv_base.declared.search.Pair.{Pair}
use Rattle.lv_model_names.specs.lv_base.Choices.{slots_rise}
use Rattle.lv_model_names.specs.lv_model.declared.plant.Plant.{Plant}
use Rattle.lv_model_names.specs.lv_model.declared.plant.Part.{Part}
use Rattle.lv_model_names.specs.lv_model.Lists.{sizes}

-- the number is of one of so many things
abbrev pub is_one_of : ℕ → ℕ → Bool
is_one_of count n = nat_lt 0 n && nat_le n count

-- for each count a number of one of so many things
abbrev pub are_of : List ℕ → List ℕ → Bool
are_of [] [] = true
are_of [] (n ∷ ns) = false
are_of (count ∷ counts) [] = false
are_of (count ∷ counts) (n ∷ ns) = is_one_of count n && are_of counts ns

-- the places of the things of these numbers
abbrev pub places_of : List ℕ → List ℕ
places_of ns = map (λ (n : ℕ). n - 1) ns

-- the values at these places
abbrev pub values_at : List ℕ → List ValId
values_at places = map (λ (place : ℕ). record { 0 = place }) places

-- the values of these numbers
abbrev pub values_of : List ℕ → List ValId
values_of ns = values_at (places_of ns)

-- the thing of this number in the list, if there is one
abbrev pub at_number : {X : Type 0} → List X → ℕ → Option X
at_number xs n = if nat_lt 0 n then slice_get xs (n - 1) else None

-- how many modes each part has
abbrev pub mode_counts : Plant → List ℕ
mode_counts plant = map (λ (p : Part). slice_index_or (sizes plant) p.first.0 0) plant.parts

-- the numbers two by two: a slot and a choice
abbrev pub pairs_in : List ℕ → List Pair
pairs_in (slot ∷ (choice ∷ more)) = record { slot = slot - 1; choice = choice - 1 } ∷ pairs_in more
pairs_in _ = []

-- two by two they are of a slot and of one of its choices
abbrev pub are_pairs_of : List ℕ → List ℕ → Bool
are_pairs_of counts [] = true
are_pairs_of counts (slot ∷ []) = false
are_pairs_of counts (slot ∷ (choice ∷ more)) = (is_one_of (length counts) slot && is_one_of (slice_index_or counts (slot - 1) 0) choice) && are_pairs_of counts more

-- the choices that the numbers are, if there are such at slots that rise
abbrev pub pairs_of_numbers : List ℕ → List ℕ → Option (List Pair)
pairs_of_numbers counts ns = if are_pairs_of counts ns && slots_rise (pairs_in ns) then Some (pairs_in ns) else None
