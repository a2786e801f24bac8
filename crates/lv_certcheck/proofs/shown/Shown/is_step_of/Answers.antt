-- no step is by more moves or fewer than there are parts
use Rattle.std.proofs.Common.{◌∙◌, length, sym, ap}
use Rattle.lv_model.specs.declared.plant.Plant.{Plant}
use Rattle.lv_certcheck.specs.Settings.{plant_of}
use Rattle.lv_certcheck.proofs.ShownLemmas.{no_step_of}
use Rattle.lv_certcheck.proofs.shown.Shown.is_step_of.Goals as goal

pub returns-then-len : goal.returns-then-len
returns-then-len c =
    sym
    (no_step_of (plant_of c.args.self.now.setting.now) c.args.self.now.judged.now.stated.facts c.args.self.now.before.now c.args.self.now.after.now c.args.rank.now.choices
    (λ same. c.if-len.true (c.len.ensures ∙ same ∙ sym (c.len-2.ensures ∙ ap (λ (p : Plant). length p.parts) c.plant.ensures.plant))))
