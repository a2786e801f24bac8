-- Facts, and what it is for assignments to meet them.
use Rattle.std.specs.Prelude.{ℕ, ◌<◌, Bool, ◌&&◌, nat_eq, List, [], ◌∷◌, ◌++◌, length, All, ◌≡◌, slice_index_or}
use Rattle.std.specs.List.{list_all}
use Rattle.lv_base.specs.declared.ids.ValId.{ValId}
use Rattle.lv_base.specs.declared.ids.VarId.{VarId}
use Rattle.lv_base.specs.Tree.{number_of}
use Rattle.lv_model.specs.declared.plant.Plant.{Plant}
use Rattle.lv_model.specs.Lists.{controls, sizes, variable_count}
use Rattle.lv_meaning.specs.declared.facts.Observation.{Observation}
use Rattle.lv_meaning.specs.declared.facts.Facts.{Facts}

-- the assignment has the observed value
abbrev pub agrees : List ValId → Observation → Bool
agrees a o = nat_eq (number_of a o.var.0) o.val.0

-- it has each observed value
abbrev pub meets : List ValId → List Observation → Bool
meets a os = list_all (agrees a) os

-- each control with its value
abbrev pub commanded : List VarId → List ValId → List Observation
commanded [] vs = []
commanded (c ∷ cs) [] = []
commanded (c ∷ cs) (v ∷ vs) = record { var = c; val = v } ∷ commanded cs vs

-- what the assignment before the step has to have: the controls' values and the present observations
abbrev pub now_facts : Plant → Facts → List Observation
now_facts plant facts = commanded (controls plant) facts.controls ++ facts.present

-- the first assignment has the control values and the present observations, the second the next observations
abbrev pub meets_facts : Plant → Facts → List ValId → List ValId → Bool
meets_facts plant facts a b = meets a (now_facts plant facts) && meets b facts.next

pub record IsInRange (count : ℕ) (o : Observation) : Type 0 where
  pub below : o.var.0 < count

-- there is a value for each control, and observations speak of variables of the plant
pub record FactsFit (plant : Plant) (facts : Facts) : Type 0 where
  pub controls : length facts.controls ≡ length (controls plant)
  pub present : All (IsInRange (variable_count plant)) facts.present
  pub next : All (IsInRange (variable_count plant)) facts.next

-- the observed value is one that the variable has
pub record HasValue (sizes : List ℕ) (o : Observation) : Type 0 where
  pub below : o.val.0 < slice_index_or sizes o.var.0 0

-- each fact speaks of a value that its variable has
pub record FactsInRange (plant : Plant) (facts : Facts) : Type 0 where
  pub now : All (HasValue (sizes plant)) (now_facts plant facts)
  pub next : All (HasValue (sizes plant)) facts.next
