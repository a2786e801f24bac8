-- Splits as the last lines of a certificate.
use Rattle.std.specs.Prelude.{◌≡◌, ℕ, true, List, [], ◌∷◌, ◌++◌, map, Option, Some}
use Rattle.std.specs.List.{list_all}
use Rattle.lv_base.specs.declared.ids.Cost.{Cost}
use Rattle.lv_base.specs.declared.rank.Rank.{Rank}
use Rattle.lv_base.specs.declared.search.Pair.{Pair}
use Rattle.lv_boxes.specs.Members.{ZoneValue}
use Rattle.lv_model.specs.declared.plant.Plant.{Plant}
use Rattle.lv_cert.specs.declared.line.Question.{Question}
use Rattle.lv_cert.specs.declared.line.Line.{Line}
use Rattle.lv_cert.specs.declared.line.Line.TheVariants as line
use Rattle.lv_cert.specs.declared.order.Place.{Place}
use Rattle.lv_cert.specs.declared.order.Place.TheVariants as place
use Rattle.lv_cert.specs.Order.{splits, place_after, place_behind}
use Rattle.lv_cert_meaning.specs.Judging.{Judged, full_to, judge_lines, comes_to}
use Rattle.lv_cert_writing.specs.Closing.{MayHaveTargets, Closes}
use Rattle.lv_cert_writing.specs.declared.closing.Split.{Split}

abbrev pub split_line : Split → Line
split_line s = line.Split s.zone s.by

-- the splits, and the end
abbrev pub last_lines : List Split → List Line
last_lines made = map split_line made ++ line.End ∷ []

-- where splits close the zones, lines that are judged good as far as these and then the splits and the end come to a judgement, with the
-- zones as the splits leave them; and these lines may come wherever such a split or the end may
pub record SplitsEndWell : Type 0 where
  pub good : (groups : Option (List (List ℕ))) (question : Question) (slots : List (List Cost)) (zones : List ZoneValue) (last : Option Rank) (listed : List Rank) (excluded : List (List Pair)) (made : List Split)
      → (closes : Closes groups question slots zones last listed excluded made) → (asked : Question) (plant : Plant) (n : ℕ) (j : Judged) → MayHaveTargets plant j.stated.distinct groups
      → j.space ≡ record { slots = slots; zones = map Some zones } → j.listed ≡ listed → j.excluded ≡ excluded → full_to j ≡ last
      → judge_lines asked plant n j (last_lines made) ≡ comes_to (record j { space = closes.space })
  pub placed : (question : Question) (made : List Split) → list_all (λ s. splits question s.by) made ≡ true
      → (before : Place) → ((s : Split) → splits question s.by ≡ true → place_after before (split_line s) ≡ Some (place.Splits question)) → place_after before line.End ≡ Some place.Done
      → place_behind before (last_lines made) ≡ Some place.Done
