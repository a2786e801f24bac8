-- A query as contracts see it, and which walk it is on.
use Rattle.std.specs.Prelude.{◌≡◌, ℕ, Bool, true, false, List, Option, Some, None}
use Rattle.lv_model.specs.declared.plant.Plant.{Plant}
use Rattle.lv_model.specs.declared.state.TrackedState.{TrackedState}
use Rattle.lv_meaning.specs.declared.facts.Facts.{Facts}
use Rattle.lv_meaning.specs.Candidates.{candidates, is_possible_candidate}
use Rattle.lv_meaning.specs.Diagnosis.{reason_of}
use Rattle.lv_meaning.specs.Targets.{targets_of_moves}
use Rattle.lv_search.specs.Standing.{Standing, all_suit, IsUnderWay}
use Rattle.lv_search_zones.specs.Moves.{is_full_choice}

-- the plant, the facts, whether no two candidates of one target are to be listed, and where the search stands
pub record QueryValue : Type 0 where
  pub plant : Plant
  pub facts : Facts
  pub distinct : Bool
  pub standing : Standing

-- the groups that tell targets, where targets are told apart
abbrev pub groups_for : Bool → Plant → Option (List (List ℕ))
groups_for false plant = None
groups_for true plant = Some (targets_of_moves plant)

-- the query is on the walk of a diagnosis along the candidates of these states
pub record IsQueryOf (tracked : List TrackedState) (q : QueryValue) : Type 0 where
  pub under_way : IsUnderWay (is_full_choice q.plant) (is_possible_candidate q.plant q.facts) (reason_of q.plant q.facts) (candidates q.plant tracked) q.standing
  pub suit : all_suit (is_full_choice q.plant) q.standing ≡ true
  pub groups : q.standing.groups ≡ groups_for q.distinct q.plant
