-- The parts stand in the order of their variables, so that two looks tell.
use Rattle.std.proofs.Common.{◌≡◌, List, rules, sym, subst, true, ap, ◌∙◌}
use Rattle.lv_model.specs.declared.plant.Part.{Part}
use Rattle.lv_model.proofs.Reading.{follow_pass}
use Rattle.lv_reply.specs.Variables.{ends_there}
use Rattle.lv_reply.proofs.OwnerLemmas.{parts_rise, begun_there}
use Rattle.lv_reply.proofs.variables.begun_near.Goals as goal

pub returns-then-ends_there : goal.returns-then-ends_there
returns-then-ends_there c =
    let plant = c.args.model.now in
    begun_there c.args.x plant.parts c.args.near (parts_rise plant.types plant.parts (follow_pass plant (search rules))) (search rules)

pub returns-then-ends_there-2 : goal.returns-then-ends_there-2
returns-then-ends_there-2 c =
    let plant = c.args.model.now in
    begun_there c.args.x plant.parts c.saturating_add-next.result (parts_rise plant.types plant.parts (follow_pass plant (search rules))) (search rules)
