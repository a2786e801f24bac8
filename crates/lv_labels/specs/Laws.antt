-- A labelling is one, it can be found step by step, and the order of literals and of claims plays no part.
use Rattle.std.specs.Prelude.{◌≡◌, List, ◌∷◌, ◌++◌}
use Rattle.lv_base.specs.declared.ids.Lit.{Lit}
use Rattle.lv_ltms.specs.System.{in_list}
use Rattle.lv_model.specs.declared.plant.Plant.{Plant}
use Rattle.lv_labels.specs.declared.labelling.Labelling.{Labelling}
use Rattle.lv_labels.specs.Labels.{IsLabelling}
use Rattle.lv_labels.specs.Finding.{labelling}
use Rattle.lv_labels.specs.Claims.{Claims, IsClaiming}

-- two labellings of the same literals are equal
abbrev pub LabellingIsOne : Type 0
LabellingIsOne = (plant : Plant) (literals : List Lit) (one other : Labelling) → IsLabelling plant literals one → IsLabelling plant literals other → one ≡ other

-- what is computed is a labelling
abbrev pub LabellingIsFound : Type 0
LabellingIsFound = (plant : Plant) (literals : List Lit) → IsLabelling plant literals (labelling plant literals)

-- lists of the same literals, in whatever order and however often, have the same labelling
abbrev pub LabellingHasNoOrder : Type 0
LabellingHasNoOrder = (plant : Plant) (one other : List Lit) → ((l : Lit) → in_list one l ≡ in_list other l) → labelling plant one ≡ labelling plant other

-- a claim may stand before the others, or among them
pub record ClaimsHaveNoOrder : Type 0 where
  pub to_front : (plant : Plant) (front back : List Lit) (l : Lit) (c : Claims) → IsClaiming plant (front ++ l ∷ back) c → IsClaiming plant (l ∷ (front ++ back)) c
  pub from_front : (plant : Plant) (front back : List Lit) (l : Lit) (c : Claims) → IsClaiming plant (l ∷ (front ++ back)) c → IsClaiming plant (front ++ l ∷ back) c
