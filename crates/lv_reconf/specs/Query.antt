-- A query as contracts see it, and which walk it is on.
use Rattle.std.specs.Prelude.{◌≡◌, true, None}
use Rattle.lv_model.specs.declared.plant.Plant.{Plant}
use Rattle.lv_meaning.specs.declared.aim.Aim.{Aim}
use Rattle.lv_meaning.specs.Commands.{command_sets}
use Rattle.lv_meaning.specs.Recovery.{candidate_recovers, candidate_reason}
use Rattle.lv_search.specs.Standing.{Standing, all_suit, IsUnderWay}
use Rattle.lv_reconf.specs.Judging.{candidate_commands}

-- the plant, the aim, and where the search stands
pub record QueryValue : Type 0 where
  pub plant : Plant
  pub aim : Aim
  pub standing : Standing

-- the query is on the walk of a recovery, to one command set
pub record IsQuery (q : QueryValue) : Type 0 where
  pub under_way : IsUnderWay (candidate_commands q.plant) (candidate_recovers q.plant q.aim) (candidate_reason q.plant q.aim) (command_sets q.plant) q.standing
  pub suit : all_suit (candidate_commands q.plant) q.standing ≡ true
  pub one : q.standing.k ≡ 1
  pub plain : q.standing.groups ≡ None
