-- the numbers of these requests are in their limits, whatever the plant
use Rattle.lv_session_request.proofs.request.request_by.Goals as goal

pub returns-in-Track-clause-within : goal.returns-in-Track-clause-within
returns-in-Track-clause-within c = c.track_of.ensures.within c.args.names.plant.now

pub returns-in-Retract-clause-within : goal.returns-in-Retract-clause-within
returns-in-Retract-clause-within c = c.retract_of.ensures.within c.args.names.plant.now
