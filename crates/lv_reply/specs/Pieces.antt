-- Names by their places, and texts with commas between them.
use Rattle.std.specs.Prelude.{ℕ, List, [], ◌∷◌, ◌++◌, slice_get, codes}
use Rattle.std.specs.Option.{option_map_or}

-- the name at this place; nothing where there is none
abbrev pub name_at : List (List ℕ) → ℕ → List ℕ
name_at names n = option_map_or (λ (name : List ℕ). name) (slice_get names n) []

-- texts behind the first, each after a comma
abbrev pub after_commas : List (List ℕ) → List ℕ
after_commas [] = []
after_commas (x ∷ xs) = codes ", " ++ x ++ after_commas xs

-- texts with commas between them, or `-` where there are none
abbrev pub joined : List (List ℕ) → List ℕ
joined [] = codes "-"
joined (x ∷ xs) = x ++ after_commas xs
