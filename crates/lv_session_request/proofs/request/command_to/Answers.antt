-- the value is one that the control has
use Rattle.std.proofs.Common.{sym, ◌∙◌}
use Rattle.lv_session_request.proofs.RequestLaws.{command_fits}
use Rattle.lv_session_request.proofs.request.command_to.Goals as goal

pub returns-clause-within : goal.returns-clause-within
returns-clause-within c =
    command_fits c.args.names.plant.now c.args.names.lists.now c.args.part.now c.args.name.now c.args.value.now c.in_ok-control.control c.in_ok-value.value c.requires
    (sym c.control_of.ensures ∙ c.in_ok-control.was) (sym c.value_in.ensures ∙ c.in_ok-value.was)
