-- a step that is taken, part by part
use Rattle.std.proofs.Common.{subst}
use Rattle.lv_model.specs.declared.plant.Plant.{Plant}
use Rattle.lv_plant.specs.Plants.{EndsIn}
use Rattle.lv_plant.proofs.PlantLemmas.{taken_so, taken_plant}
use Rattle.lv_plant.proofs.plant.Plant.take.Goals as goal

pub told_of-requires : goal.told_of-requires
told_of-requires c =
    subst (λ (p : Plant). EndsIn p c.args.step.now)
    (taken_plant c.args.self.now c.go_to.new.self c.tell.new.self c.diagnose.new.self c.commit_or_halt.new.self c.args.step.now c.in_ok-diagnosis.diagnosis c.in_ok-commit.commit c.in_ok-go_to.ensures
    c.in_ok-tell.ensures c.in_ok-diagnosis.ensures.state c.in_ok-commit.ensures) c.requires.ends

pub returns : goal.returns
returns c =
    taken_so c.args.self.now c.go_to.new.self c.tell.new.self c.diagnose.new.self c.commit_or_halt.new.self c.args.step.now c.in_ok-diagnosis.diagnosis c.in_ok-commit.commit c.in_ok-told_of.field-0
    c.in_ok-go_to.ensures c.in_ok-tell.ensures c.in_ok-diagnosis.ensures.state c.in_ok-diagnosis.ensures.reply c.in_ok-commit.ensures c.in_ok-told_of.ensures
