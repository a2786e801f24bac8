-- Controls whose values make a slot of a grid.
use Rattle.std.specs.Prelude.{◌<◌, ◌≤◌, length, slice_index_or}
use Rattle.lv_base.specs.declared.ids.VarId.{VarId}
use Rattle.lv_boxes.specs.Members.{IsSlot}
use Rattle.lv_model.specs.declared.plant.Plant.{Plant}
use Rattle.lv_model.specs.Lists.{sizes}
use Rattle.lv_search_zones.specs.Commands.{control_costs}

pub record HasControlSlot (plant : Plant) (c : VarId) : Type 0 where
  pub there : c.0 < length (sizes plant)
  pub few : slice_index_or (sizes plant) c.0 0 ≤ 64
  pub slot : IsSlot (control_costs plant c)
