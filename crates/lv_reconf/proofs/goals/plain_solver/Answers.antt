-- the system's clauses, what is observed, and no faults
use Rattle.std.proofs.Common.{◌∙◌}
use Rattle.lv_reconf.proofs.GoalLemmas.{asks_plain, well_of}
use Rattle.lv_reconf.proofs.goals.plain_solver.Goals as goal

pub returns : goal.returns
returns c =
    asks_plain c.args.compiled.now (well_of c.plant-plant.result.now c.args.compiled.now (c.plant-plant.ensures.plant ∙ c.model.ensures) c.plant-plant.ensures.well_formed) c.args.system.now c.requires.system
    c.args.present.now c.in_ok-solver.solver.set c.observe.new.solver.set c.exclude_faults.new.solver.set (c.in_ok-solver.ensures.set ∙ c.clauses.ensures) c.in_ok-observe.ensures c.in_ok-exclude_faults.ensures
