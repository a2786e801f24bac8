-- Names, each with the place at which it appears first.
use Rattle.std.specs.Prelude.{ℕ, ◌+◌, List, [], ◌∷◌, ◌++◌, Option, is_some, if◌then◌else◌}
use Rattle.std.specs.Map.{lookup}
use Rattle.lv_base.specs.Names.{is_named}

-- the place of a name
abbrev pub place_of : List ℕ → List (List ℕ × ℕ) → Option ℕ
place_of word table = lookup (is_named word) table

-- one more name, at a place; a name that is there keeps its own
abbrev pub noted : List (List ℕ × ℕ) → List ℕ → ℕ → List (List ℕ × ℕ)
noted table name place = if is_some (place_of name table) then table else table ++ (name, place) ∷ []

-- the names of a list, one after the other, at their places counted from one
abbrev pub all_noted : List (List ℕ × ℕ) → ℕ → List (List ℕ) → List (List ℕ × ℕ)
all_noted table place [] = table
all_noted table place (name ∷ names) = all_noted (noted table name place) (1 + place) names

-- each name of a list, at its first place there
abbrev pub first_places : List (List ℕ) → List (List ℕ × ℕ)
first_places names = all_noted [] 0 names
