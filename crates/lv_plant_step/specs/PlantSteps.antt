-- The step that a plant takes, with the faults that are named and no others.
use Rattle.std.specs.Prelude.{ℕ, Bool, true, false, nat_eq, nat_lt, ◌&&◌, List, [], ◌∷◌, ◌++◌, length, take, drop, Option, Some, None, option_map, IsTrue}
use Rattle.std.specs.Cmp.Lexicographic.{pointwise}
use Rattle.lv_base.specs.declared.ids.ValId.{ValId}
use Rattle.lv_base.specs.declared.ids.MoveId.{MoveId}
use Rattle.lv_model.specs.declared.plant.Plant.{Plant}
use Rattle.lv_model.specs.declared.plant.ComponentType.{ComponentType}
use Rattle.lv_model.specs.declared.plant.Part.{Part}
use Rattle.lv_model.specs.Ranges.{plant_ranges}
use Rattle.lv_model.specs.Lists.{sizes, move_counts}
use Rattle.lv_model.specs.Meaning.{is_step, part_is_nominal}
use Rattle.lv_meaning.specs.Facts.{meets, now_facts, FactsFit, FactsInRange}
use Rattle.lv_meaning.specs.Search.{some_list}
use Rattle.lv_meaning.specs.Possible.{move_number}
use Rattle.lv_meaning.specs.Ranges.{modes_fit}
use Rattle.lv_meaning.specs.Recovers.{has_modes}
use Rattle.lv_plant_step.specs.declared.asked.Asked.{Asked}
use Rattle.lv_plant_step.specs.declared.asked.PlantStep.{PlantStep}
use Rattle.lv_plant_step.specs.FirstList.{first_list}

-- the part's move is the one that is named of it, or, where none is, no fault
abbrev pub is_as_named : List ComponentType → Part → Option MoveId → ℕ → Bool
is_as_named types p None n = part_is_nominal types p n
is_as_named types p (Some m) n = nat_eq n m.0

-- each part's move is
abbrev pub are_as_named : List ComponentType → List Part → List (Option MoveId) → List MoveId → Bool
are_as_named types [] [] ms = true
are_as_named types [] (f ∷ fs) ms = false
are_as_named types (p ∷ ps) [] ms = false
are_as_named types (p ∷ ps) (f ∷ fs) [] = false
are_as_named types (p ∷ ps) (f ∷ fs) (m ∷ ms) = is_as_named types p f m.0 && are_as_named types ps fs ms

-- before the step the controls have their values, what is observed now is so, and the parts are in their modes; each part makes the
-- move that is named of it, or else no fault
abbrev pub is_as_asked : Plant → Asked → List ValId → List MoveId → Bool
is_as_asked plant asked a ms =
    (meets a (now_facts plant asked.facts) && has_modes plant.parts asked.modes a) && are_as_named plant.types plant.parts asked.faults ms

-- with some full choice the assignments are a step of the system that is as asked
abbrev pub is_plant_step : Plant → Asked → List ValId → List ValId → Bool
is_plant_step plant asked a b = some_list move_number (move_counts plant) (λ ms. is_step plant a b ms && is_as_asked plant asked a ms)

-- how many values each variable has, before the step and then after it
abbrev pub places : Plant → List ℕ
places plant = sizes plant ++ sizes plant

-- the values before the step, and behind them those after it
abbrev pub step_of : Plant → List ValId → PlantStep
step_of plant vs = record { before = take (length (sizes plant)) vs; after = drop (length (sizes plant)) vs }

abbrev pub are_plant_step : Plant → Asked → List ValId → Bool
are_plant_step plant asked vs = is_plant_step plant asked (take (length (sizes plant)) vs) (drop (length (sizes plant)) vs)

-- the step that the plant takes: the values before it in the order of the variables, each the first with which there still is such a
-- step, then those after it
abbrev pub plant_step : Plant → Asked → Option PlantStep
plant_step plant asked = option_map (step_of plant) (first_list (places plant) (are_plant_step plant asked))

-- the part has the move, if one is named
abbrev pub fault_fits : Option MoveId → ℕ → Bool
fault_fits None n = true
fault_fits (Some m) n = nat_lt m.0 n

-- a mode that its type has for each part, a value for each control, observations of values that there are, and for each part nothing or
-- a move that it has
pub record AskedFits (plant : Plant) (asked : Asked) : Type 0 where
  pub modes : IsTrue (modes_fit (plant_ranges plant) plant.parts asked.modes)
  pub facts : FactsFit plant asked.facts
  pub in_range : FactsInRange plant asked.facts
  pub faults : IsTrue (pointwise fault_fits asked.faults (move_counts plant))
