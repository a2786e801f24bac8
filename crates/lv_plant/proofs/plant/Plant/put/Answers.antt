-- the part is there, and has the move
use Rattle.std.proofs.Common.{◌≡◌, sym, subst, ◌∙◌, ap, arith}
use Rattle.lv_model.specs.declared.plant.Plant.{Plant}
use Rattle.lv_plant.specs.Naming.{NamesMove}
use Rattle.lv_plant.specs.Standing.{Standing}
use Rattle.lv_plant.proofs.PlantLemmas.{named_below, one_fault_fits}
use Rattle.lv_plant.proofs.plant.Plant.put.Goals as goal

pub index_mut-requires : goal.index_mut-requires
index_mut-requires c =
    let plant : c.args.self.now.session.plant ≡ c.self.inside.compiled.now = sym (ap (λ (s : Standing). s.session.plant) c.self.view_is) ∙ c.self.invariant.session_is in
    let below = named_below c.self.inside.compiled.now c.self.inside.faults.items c.args.named c.self.invariant.faults (subst (λ (p : Plant). NamesMove p c.args.named) plant c.requires) in
    grind (arith, below)

pub invariant_of-self : goal.invariant_of-self
invariant_of-self c =
    let plant : c.args.self.now.session.plant ≡ c.self.inside.compiled.now = sym (ap (λ (s : Standing). s.session.plant) c.self.view_is) ∙ c.self.invariant.session_is in
    let is : NamesMove c.self.inside.compiled.now c.args.named = subst (λ (p : Plant). NamesMove p c.args.named) plant c.requires in
    record {
      session_is = c.self.invariant.session_is;
      stepper_is = c.self.invariant.stepper_is;
      goes_on = c.self.invariant.goes_on;
      modes = c.self.invariant.modes;
      faults = one_fault_fits c.self.inside.compiled.now c.self.inside.faults.items c.args.named.part is.of c.args.named.mv c.self.invariant.faults is.at is.below;
    }
