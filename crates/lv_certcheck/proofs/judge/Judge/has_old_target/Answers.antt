-- by the targets of moves
use Rattle.std.proofs.Common.{◌∙◌, sym, ap}
use Rattle.lv_certcheck.specs.declared.judged.Judged.{Judged}
use Rattle.lv_certcheck.specs.Settings.{plant_of}
use Rattle.lv_certcheck.proofs.JudgeLemmas.{old_target, no_old_target}
use Rattle.lv_certcheck.proofs.judge.Judge.has_old_target.Goals as goal

pub returns-then-judged : goal.returns-then-judged
returns-then-judged c =
    c.has_target.ensures
    ∙ old_target (plant_of c.args.self.now.setting) c.args.self.now.setting.targets.now c.args.judged.now.stated.distinct c.args.rank.now c.as_slice.result.now c.args.judged.now.listed.items
    (ap (λ (j : Judged). j.stated.distinct) (sym c.judged.view_is) ∙ c.if-judged.true) c.requires.setting.targets_are (c.as_slice.ensures.value ∙ ap (λ (j : Judged). j.listed.items) c.judged.view_is)

pub returns-else-judged : goal.returns-else-judged
returns-else-judged c =
    c.if-judged.false
    ∙ no_old_target (plant_of c.args.self.now.setting) c.args.judged.now.stated.distinct c.args.rank.now c.args.judged.now.listed.items
    (ap (λ (j : Judged). j.stated.distinct) (sym c.judged.view_is) ∙ c.if-judged.false)
