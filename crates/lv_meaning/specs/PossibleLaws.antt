-- What it is for a partial choice to be possible, in the subject's own words.
use Rattle.std.specs.Prelude.{◌≡◌, ℕ, Bool, true, nat_lt, List, ◌∷◌, ◌++◌, Contains, map}
use Rattle.std.specs.Cmp.Lexicographic.{pointwise}
use Rattle.lv_base.specs.declared.search.Pair.{Pair}
use Rattle.lv_model.specs.declared.plant.Plant.{Plant}
use Rattle.lv_model.specs.Lists.{sizes, move_counts}
use Rattle.lv_meaning.specs.declared.facts.Facts.{Facts}
use Rattle.lv_meaning.specs.Possible.{value, move_number, witnesses, is_possible}

-- one number for each size, and each below its size
abbrev pub are_below : List ℕ → List ℕ → Bool
are_below sizes numbers = pointwise nat_lt numbers sizes

-- a value for each variable before the step and after it and a move for each part, which make a step that meets the facts and has
-- the moves of the partial choice
pub record Witness (plant : Plant) (facts : Facts) (partial : List Pair) : Type 0 where
  pub before : List ℕ
  pub after : List ℕ
  pub moves : List ℕ
  pub before_below : are_below (sizes plant) before ≡ true
  pub after_below : are_below (sizes plant) after ≡ true
  pub moves_below : are_below (move_counts plant) moves ≡ true
  pub step : witnesses plant facts partial (map value before) (map value after) (map move_number moves) ≡ true

-- a partial choice is possible exactly where it has a witness
pub record PossibleReads : Type 0 where
  pub witnessed : (plant : Plant) (facts : Facts) (partial : List Pair) → is_possible plant facts partial ≡ true → Witness plant facts partial
  pub possible : (plant : Plant) (facts : Facts) (partial : List Pair) → Witness plant facts partial → is_possible plant facts partial ≡ true

-- a partial choice whose pairs are all among those of a possible one is possible, and so is one that leaves a pair out
pub record PossibleParts : Type 0 where
  pub among : (plant : Plant) (facts : Facts) (part whole : List Pair) → ((p : Pair) → Contains part p → Contains whole p)
      → is_possible plant facts whole ≡ true → is_possible plant facts part ≡ true
  pub one_left_out : (plant : Plant) (facts : Facts) (before after : List Pair) (left_out : Pair)
      → is_possible plant facts (before ++ left_out ∷ after) ≡ true → is_possible plant facts (before ++ after) ≡ true
