-- Where memory was wanting before anything was read.
use Rattle.lv_run.proofs.ServiceLemmas.{not_served}
use Rattle.lv_run.proofs.session.serve_opened.Goals as goal

pub returns-in_err-compiled-clause-told : goal.returns-in_err-compiled-clause-told
returns-in_err-compiled-clause-told g c = λ text told. not_served c.args.service c.args.model.now text _ c.from_residual.result c.from_residual.ensures.1

pub returns-in_err-session-in-Single-clause-told : goal.returns-in_err-session-in-Single-clause-told
returns-in_err-session-in-Single-clause-told g c =
    λ text told. not_served c.args.service c.args.model.now text _ c.from_residual-in_err-session-in-Single.result c.from_residual-in_err-session-in-Single.ensures.1

pub returns-in_err-first-in-Lanes-clause-told : goal.returns-in_err-first-in-Lanes-clause-told
returns-in_err-first-in-Lanes-clause-told g c =
    λ text told. not_served c.args.service c.args.model.now text _ c.from_residual-in_err-first-in-Lanes.result c.from_residual-in_err-first-in-Lanes.ensures.1

pub returns-in_err-plant-in-Simulation-clause-told : goal.returns-in_err-plant-in-Simulation-clause-told
returns-in_err-plant-in-Simulation-clause-told g c =
    λ text told. not_served c.args.service c.args.model.now text _ c.from_residual-in_err-plant-in-Simulation.result c.from_residual-in_err-plant-in-Simulation.ensures.1
