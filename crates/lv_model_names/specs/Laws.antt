-- What names stand for keeps to what variables range over.
use Rattle.std.specs.Prelude.{◌≡◌, ◌<◌, ℕ, true, List, Some, Ok, slice_index_or}
use Rattle.lv_base.specs.declared.ids.ValId.{ValId}
use Rattle.lv_base.specs.declared.ids.VarId.{VarId}
use Rattle.lv_base.specs.Tree.{Tree}
use Rattle.lv_base.specs.Fits.{fits, has_value}
use Rattle.lv_model.specs.declared.plant.Plant.{Plant}
use Rattle.lv_model.specs.Lists.{sizes, variable_count}
use Rattle.lv_model.specs.WellFormed.{is_well_formed}
use Rattle.lv_model.specs.Ranges.{plant_ranges}
use Rattle.lv_formula_text.specs.PhraseTree.{PhraseTree}
use Rattle.lv_formula_text.specs.Resolving.{resolved}
use Rattle.lv_model_names.specs.Names.{value_of, plant_names}

-- a value that a name stands for is one that its variable has
abbrev pub NamedValueFits : Type 0
NamedValueFits = (plant : Plant) (x : VarId) (word : List ℕ) (v : ValId) → value_of plant (plant_ranges plant) x word ≡ Some v → has_value (plant_ranges plant) x.0 v.0 ≡ true

-- a goal whose names stand for something fitting fits the plant's variables
abbrev pub GoalFits : Type 0
GoalFits = (plant : Plant) (phrase : PhraseTree) (f : Tree) → resolved (plant_names plant) phrase ≡ Ok f → fits (plant_ranges plant) f ≡ true

-- a value that a variable has is below the number of its values
abbrev pub ValueIsBelow : Type 0
ValueIsBelow = (plant : Plant) (x v : ℕ) → has_value (plant_ranges plant) x v ≡ true → v < slice_index_or (sizes plant) x 0

-- each variable of a well-formed plant has a value
abbrev pub VariableHasValue : Type 0
VariableHasValue = (plant : Plant) → is_well_formed plant ≡ true → (x : ℕ) → x < variable_count plant → 0 < slice_index_or (sizes plant) x 0
