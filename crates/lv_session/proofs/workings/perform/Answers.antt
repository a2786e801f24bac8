-- the state stays one of the plant, and what is kept that of its current query
use Rattle.std.proofs.Common.{◌≡◌, true, subst, ◌∙◌}
use Rattle.lv_model.specs.declared.plant.Plant.{Plant}
use Rattle.lv_model.specs.WellFormed.{is_well_formed}
use Rattle.lv_session.proofs.Keeping.{state_kept}
use Rattle.lv_session.proofs.CurrentLemmas.{work_kept}
use Rattle.lv_session.proofs.workings.perform.Goals as goal

pub returns-clause-kept : goal.returns-clause-kept
returns-clause-kept c =
    let well : is_well_formed c.args.compiled.now ≡ true =
    subst (λ (p : Plant). is_well_formed p ≡ true) (c.plant-plant.ensures.plant ∙ c.model.ensures) c.plant-plant.ensures.well_formed in
    state_kept c.args.compiled.now c.args.state.now c.carry_out.new.state c.args.request c.carry_out.result well c.requires.ready.state c.requires.request c.carry_out.ensures.ok c.carry_out.ensures.err

pub returns-clause-running : goal.returns-clause-running
returns-clause-running c =
    work_kept c.args.compiled.now c.args.state.now c.carry_out.new.state c.args.workings.now.running c.carry_out.new.workings.running c.args.request c.carry_out.result c.requires.ready.running c.requires.ready.solver
    c.carry_out.ensures.ok c.carry_out.ensures.running
