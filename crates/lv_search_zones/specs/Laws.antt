-- That the zones of a diagnosis have exactly the candidates, and the zone of a recovery exactly the command sets.
use Rattle.std.specs.Prelude.{◌≡◌, true, List, [], ◌∷◌}
use Rattle.lv_base.specs.declared.search.Candidate.{Candidate}
use Rattle.lv_model.specs.declared.plant.Plant.{Plant}
use Rattle.lv_model.specs.declared.state.TrackedState.{TrackedState}
use Rattle.lv_model.specs.WellFormed.{is_well_formed}
use Rattle.lv_meaning.specs.Candidates.{candidates}
use Rattle.lv_boxes.specs.RankedMembers.{ranked_members, sources_differ}
use Rattle.lv_boxes.specs.Walk.{suit_all}
use Rattle.lv_meaning.specs.Commands.{is_command_set, command_sets}
use Rattle.lv_search_zones.specs.Moves.{move_slots, zones_from, is_full_choice}
use Rattle.lv_search_zones.specs.Commands.{control_slots, command_zone}

-- the members of the zones are the candidates, in the same order; no two zones have one source; each candidate has a move for each part
pub record ZonesHoldTheCandidates : Type 0 where
  pub same : (plant : Plant) (tracked : List TrackedState) → ranked_members (move_slots plant) (zones_from plant 0 tracked) ≡ candidates plant tracked
  pub differ : (plant : Plant) (tracked : List TrackedState) → sources_differ (zones_from plant 0 tracked) ≡ true
  pub full : (plant : Plant) (tracked : List TrackedState) → suit_all (is_full_choice plant) (candidates plant tracked) ≡ true

-- the members of the zone are the command sets, in the same order, and each gives a value to each control
pub record ZoneHoldsTheCommandSets : Type 0 where
  pub same : (plant : Plant) → is_well_formed plant ≡ true → ranked_members (control_slots plant) (command_zone plant ∷ []) ≡ command_sets plant
  pub whole : (plant : Plant) → suit_all (λ (c : Candidate). is_command_set plant c.choices) (command_sets plant) ≡ true
