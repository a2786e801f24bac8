-- what is named of the part fits it
use Rattle.std.proofs.Common.{None, get_or, ap, ◌∙◌}
use Rattle.lv_model.specs.Lists.{move_counts}
use Rattle.lv_system.specs.Choices.{Choices, move_count}
use Rattle.lv_plant_step.specs.PlantSteps.{fault_fits}
use Rattle.lv_plant_step.proofs.NamedLemmas.{fits_at}
use Rattle.lv_plant_step.proofs.literals.push_moves.Goals as goal

pub push_named-requires-clause-fits : goal.push_named-requires-clause-fits
push_named-requires-clause-fits c =
    ap (λ (x : Choices). fault_fits (get_or c.args.faults.now c.loop-k.k None) (move_count x c.loop-k.k)) c.requires.choices
    ∙ fits_at c.args.faults.now (move_counts c.args.model.now) c.requires.fit c.loop-k.k
