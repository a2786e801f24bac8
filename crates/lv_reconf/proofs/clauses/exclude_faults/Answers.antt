-- one part more
use Rattle.std.proofs.Common.{◌≡◌, List, length, ap, ◌∙◌, subst, ◌≤◌}
use Rattle.lv_model.specs.declared.plant.Plant.{Plant}
use Rattle.lv_model.specs.declared.plant.Part.{Part}
use Rattle.lv_reconf.proofs.NarrowingLemmas.{part_next, all_nominal, narrows_end, nominal_left}
use Rattle.lv_reconf.proofs.clauses.exclude_faults.Goals as goal

pub loop-k-preserved : goal.loop-k-preserved
loop-k-preserved c =
    let same : c.plant-plant.result.now ≡ c.args.compiled.now = c.plant-plant.ensures.plant ∙ c.model.ensures in
    part_next c.args.compiled.now c.args.solver.now.set c.loop-k.solver.set c.exclude_faults_of.new.solver.set c.loop-k.k c.part-item.result c.as_slice-part-items.result.now c.as_slice.result.now
    c.moves_of-moves.result.now (c.as_slice-part-items.ensures ∙ ap (λ (p : Plant). p.parts) same) (c.as_slice.ensures ∙ ap (λ (p : Plant). p.types) same) c.moves_of-moves.ensures.moves c.loop-k-test.true
    c.part-item.is c.loop-k.invariant c.in_ok-exclude_faults_of.ensures

pub returns : goal.returns
returns c =
    let same : c.plant-plant.result.now ≡ c.args.compiled.now = c.plant-plant.ensures.plant ∙ c.model.ensures in
    narrows_end c.args.compiled.now c.args.solver.now.set c.loop-k.solver.set (nominal_left c.args.compiled.now c.loop-k.k) (nominal_left c.args.compiled.now 0) c.loop-k.invariant
    (all_nominal c.args.compiled.now c.loop-k.k
    (subst (λ (ps : List Part). length ps ≤ c.loop-k.k) (c.as_slice-part-items.ensures ∙ ap (λ (p : Plant). p.parts) same) c.loop-k-test.false))
