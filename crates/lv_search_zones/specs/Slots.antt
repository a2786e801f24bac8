-- Parts whose moves make a slot of a grid.
use Rattle.std.specs.Prelude.{List}
use Rattle.lv_boxes.specs.Members.{IsSlot}
use Rattle.lv_model.specs.declared.plant.ComponentType.{ComponentType}
use Rattle.lv_model.specs.declared.plant.Part.{Part}
use Rattle.lv_search_zones.specs.Moves.{part_costs}

pub record HasSlot (types : List ComponentType) (p : Part) : Type 0 where
  pub slot : IsSlot (part_costs types p)
