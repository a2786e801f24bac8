use Rattle.std.proofs.Common.{◌≡◌, All}
use Rattle.lv_session.specs.lv_session_request.Requests.{IsSightingIn}
use Rattle.lv_plant.specs.Standing.{told_all}
use Rattle.lv_plant.proofs.plant.Plant.tell.Given as goal

-- told of what is left, it stands where it is told of all; and what is left can be observed
abbrev pub invariant-loop-sighting : goal.invariant-loop-sighting
invariant-loop-sighting l = record {
  same : told_all l.self l.sighting-iterator.rest.items ≡ told_all l.initial.self l.initial.sighting-iterator.rest.items;
  fit : All (IsSightingIn l.self.session.plant) l.sighting-iterator.rest.items;
}
