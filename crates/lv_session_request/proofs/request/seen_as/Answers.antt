-- the value is one that the observable has
use Rattle.std.proofs.Common.{sym, ◌∙◌}
use Rattle.lv_session_request.proofs.RequestLaws.{sighting_fits}
use Rattle.lv_session_request.proofs.request.seen_as.Goals as goal

pub returns-clause-within : goal.returns-clause-within
returns-clause-within c =
    sighting_fits c.args.names.plant.now c.args.names.lists.now c.in_ok-from_slice.field-0 c.args.part.now c.args.variable.now c.args.value.now c.in_ok-var.var c.in_ok-val.val c.requires
    (sym c.observable_of.ensures ∙ c.in_ok-var.was) (sym c.value_in.ensures ∙ c.in_ok-val.was)
