-- what is found is an observable
use Rattle.lv_session_request.proofs.RequestLaws.{tested_all}
use Rattle.lv_session_request.proofs.request.tested_of.Goals as goal

pub returns-clause-within : goal.returns-clause-within
returns-clause-within c = tested_all c.args.names.plant.now c.args.names.lists.now c.in_ok-part.part.now c.in_ok-name.name.now c.observable_of.result c.requires c.observable_of.ensures
