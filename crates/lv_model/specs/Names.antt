-- Whether an item of a plant's lists has a name.
use Rattle.std.specs.Prelude.{ℕ, Bool, List}
use Rattle.lv_base.specs.Names.{is_named}
use Rattle.lv_model.specs.declared.plant.Domain.{Domain}
use Rattle.lv_model.specs.declared.plant.ComponentType.{ComponentType}
use Rattle.lv_model.specs.declared.plant.Variable.{Variable}
use Rattle.lv_model.specs.declared.plant.Part.{Part}

abbrev pub domain_named : List ℕ → Domain → Bool
domain_named text d = is_named text d.name

abbrev pub type_named : List ℕ → ComponentType → Bool
type_named text t = is_named text t.name

abbrev pub variable_named : List ℕ → Variable → Bool
variable_named text v = is_named text v.name

abbrev pub part_named : List ℕ → Part → Bool
part_named text p = is_named text p.name
