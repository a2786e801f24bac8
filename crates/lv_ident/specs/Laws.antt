-- What the kept conflicts of a diagnosis are.
use Rattle.std.specs.Prelude.{◌≡◌, ℕ, Bool, true, not, [], List}
use Rattle.std.specs.List.{list_all}
use Rattle.lv_base.specs.declared.rank.Rank.{Rank}
use Rattle.lv_model.specs.declared.plant.Plant.{Plant}
use Rattle.lv_boxes.specs.WalkLaws.{each_is_needed, none_in_another}
use Rattle.lv_meaning.specs.declared.facts.Facts.{Facts}
use Rattle.lv_meaning.specs.Possible.{is_possible}
use Rattle.lv_meaning.specs.Diagnosis.{diagnosis_walk}

-- the kept conflicts of a diagnosis aren't possible; of each no choice can be left out, without which the others are possible; none has
-- all choices of another
pub record KeptAreMinimal : Type 0 where
  pub impossible : (plant : Plant) (facts : Facts) (k budget : ℕ) (distinct : Bool) (ranks : List Rank) → list_all (λ conflict. not (is_possible plant facts conflict)) (diagnosis_walk plant facts k distinct budget ranks).kept ≡ true
  pub needed : (plant : Plant) (facts : Facts) (k budget : ℕ) (distinct : Bool) (ranks : List Rank) → list_all (each_is_needed (is_possible plant facts) []) (diagnosis_walk plant facts k distinct budget ranks).kept ≡ true
  pub apart : (plant : Plant) (facts : Facts) (k budget : ℕ) (distinct : Bool) (ranks : List Rank) → none_in_another (diagnosis_walk plant facts k distinct budget ranks).kept ≡ true
