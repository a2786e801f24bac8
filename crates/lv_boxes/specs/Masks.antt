-- Sets of choices as the bits of a number: choice c is in the mask where bit c is 1.
use Rattle.std.specs.Prelude.{ℕ, ◌+◌, ◌^◌, Bool, nat_eq, bit_and, bit_xor, List, [], ◌∷◌, if◌then◌else◌}
use Rattle.std.specs.Int.{bit_at}

-- the mask has this choice
abbrev pub has_choice : ℕ → ℕ → Bool
has_choice mask choice = nat_eq (bit_at mask choice) 1

-- of a mask this choice alone, if the mask has it
abbrev pub only_choice : ℕ → ℕ → ℕ
only_choice mask choice = bit_and mask (2 ^ choice)

-- a mask with this choice taken out
abbrev pub without_choice : ℕ → ℕ → ℕ
without_choice mask choice = bit_xor mask (only_choice mask choice)

-- of a mask the choices from n on, of which these are the groups, that aren't of the group are taken out
abbrev pub without_others : ℕ → ℕ → ℕ → List ℕ → ℕ
without_others mask group n [] = mask
without_others mask group n (other ∷ others) = without_others (if nat_eq other group then mask else without_choice mask n) group (n + 1) others

-- of a mask the choices of this group alone
abbrev pub only_group : ℕ → List ℕ → ℕ → ℕ
only_group mask numbers group = without_others mask group 0 numbers

-- a mask with the choices of this group taken out
abbrev pub without_group : ℕ → List ℕ → ℕ → ℕ
without_group mask numbers group = bit_xor mask (only_group mask numbers group)
