-- The command sets as a search has them: what the values of each control cost, and one zone in which each control may have each of
-- its values.
use Rattle.std.specs.Prelude.{ℕ, ◌-◌, ◌^◌, List, map, slice_index_or}
use Rattle.std.specs.List.{range_with_len}
use Rattle.lv_base.specs.declared.ids.Cost.{Cost}
use Rattle.lv_base.specs.declared.ids.VarId.{VarId}
use Rattle.lv_boxes.specs.Members.{ZoneValue}
use Rattle.lv_model.specs.declared.plant.Plant.{Plant}
use Rattle.lv_model.specs.Lists.{sizes, controls}
use Rattle.lv_model.specs.Prices.{price_of}

-- what it costs to command the control to the value
abbrev pub value_cost : Plant → ℕ → ℕ → Cost
value_cost plant control v = record { 0 = price_of plant control v }

-- of so many values of the control, in order
abbrev pub value_costs : Plant → ℕ → ℕ → List Cost
value_costs plant control count = map (value_cost plant control) (range_with_len 0 count)

abbrev pub control_costs : Plant → VarId → List Cost
control_costs plant c = value_costs plant c.0 (slice_index_or (sizes plant) c.0 0)

-- of each control what its values cost
abbrev pub control_slots : Plant → List (List Cost)
control_slots plant = map (control_costs plant) (controls plant)

-- the mask that has all of up to 64 choices
abbrev pub every_choice : ℕ
every_choice = 2 ^ 64 - 1

-- all command sets
abbrev pub command_zone : Plant → ZoneValue
command_zone plant = record { source = 0; base = record { 0 = 0 }; masks = map (λ (c : VarId). every_choice) (controls plant) }
