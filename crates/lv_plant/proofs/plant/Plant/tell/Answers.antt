-- one more observation is told
use Rattle.lv_plant.proofs.PlantLemmas.{told_next, fit_next}
use Rattle.lv_plant.proofs.plant.Plant.tell.Goals as goal

pub loop-sighting-preserved : goal.loop-sighting-preserved
loop-sighting-preserved c =
    record {
      same =
          told_next c.loop-sighting.self c.observe.new.self _ c.in-Some.sighting c.loop-sighting.sighting-iterator.rest.items c.next.new.self.rest.items c.in-Some.ensures.steps.0 c.in_ok-observe.ensures
          c.loop-sighting.invariant.same;
      fit =
          fit_next c.loop-sighting.self c.observe.new.self c.in-Some.sighting c.loop-sighting.sighting-iterator.rest.items c.next.new.self.rest.items c.in-Some.ensures.steps.0 c.in_ok-observe.ensures
          c.loop-sighting.invariant.fit;
    }
