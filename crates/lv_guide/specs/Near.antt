-- A zone near another one, of which the first member by some of the conflicts is known.
use Rattle.std.specs.Prelude.{◌≡◌, ℕ, Bool, true, not, List, [], ◌∷◌, ◌++◌, filter, if◌then◌else◌}
use Rattle.std.specs.List.{list_all}
use Rattle.lv_base.specs.declared.ids.Cost.{Cost}
use Rattle.lv_base.specs.declared.rank.Rank.{Rank}
use Rattle.lv_base.specs.declared.search.Pair.{Pair}
use Rattle.lv_base.specs.Choices.{contains_all}
use Rattle.lv_boxes.specs.Laws.{pairs_of}
use Rattle.lv_boxes.specs.Members.{ZoneValue, are_left}
use Rattle.lv_search_parts.specs.Parts.{is_there}
use Rattle.lv_search_guide.specs.Free.{IsLeastFree}

-- these conflicts are all among those
pub record AreAmong (others conflicts : List (List Pair)) : Type 0 where
  pub each : (test : List Pair → Bool) → list_all test conflicts ≡ true → list_all test others ≡ true

-- the rank is that of the member which ranks first among those of a zone that contain none of some of the conflicts, and that zone has all choices of
-- this one
pub record IsFirstNear (slots : List (List Cost)) (zone : ZoneValue) (conflicts : List (List Pair)) (rank : Rank) : Type 0 where
  pub whole : ZoneValue
  pub inside : (choices : List ℕ) → are_left slots zone.masks choices ≡ true → are_left slots whole.masks choices ≡ true
  pub others : List (List Pair)
  pub among : AreAmong others conflicts
  pub first : IsLeastFree slots whole others rank

-- the pairs of all conflicts that the choices contain
abbrev pub contained_pairs : List ℕ → List (List Pair) → List Pair
contained_pairs choices [] = []
contained_pairs choices (k ∷ ks) = (if contains_all choices k then k ++ contained_pairs choices ks else contained_pairs choices ks)

-- the choices, as pairs, that the box lacks
abbrev pub lost_pairs : List ℕ → List ℕ → List Pair
lost_pairs masks choices = filter (λ p. not (is_there masks p)) (pairs_of choices)

-- the pairs for which the choices are no free member of the box
abbrev pub unsettled : List ℕ → List (List Pair) → List ℕ → List Pair
unsettled masks conflicts choices = lost_pairs masks choices ++ contained_pairs choices conflicts
