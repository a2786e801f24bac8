-- a goal can be missed exactly where some goal can be missed by itself
use Rattle.std.proofs.Common.{◌≡◌, true, ap, sym, ◌∙◌, subst}
use Rattle.std.specs.Result.{IfOk}
use Rattle.std.proofs.lemmas.Result.{IfOk-weaker}
use Rattle.lv_meaning.specs.declared.aim.Aim.{Aim}
use Rattle.lv_reconf.specs.Assuming.{CommandedValue}
use Rattle.lv_reconf.specs.Narrowing.{Asks}
use Rattle.lv_reconf.specs.Trying.{Question, some_can_miss}
use Rattle.lv_reconf.proofs.MissLemmas.{missed_all}
use Rattle.lv_reconf.proofs.trial.ReconfTrial.can_miss.Goals as goal

pub returns : goal.returns
returns c =
    let s : Question = c.setting-setting.result.now in
    subst (λ (q : Question). IfOk c.some_missed.result (λ answer. answer ≡ some_can_miss q.plant q.aim c.args.count c.args.pairs.now)) (c.setting-setting.ensures ∙ c.self.view_is)
    (IfOk-weaker c.some_missed.result _ _
    (λ answer told.
    told
    ∙ missed_all s.plant c.args.pairs.now c.new.result c.new.ensures s.aim c.as_slice-2.result.now (c.as_slice-2.ensures ∙ ap (λ (a : Aim). a.goals) c.aim-aim.ensures.aim)
    c.as_slice.result.now (c.as_slice.ensures ∙ ap (λ (a : Aim). a.tracked) c.aim-aim.ensures.aim) c.args.count)
    (c.some_missed.ensures s.aim.present (subst (λ (v : CommandedValue). Asks v.plant s.aim.present (λ b. true) c.plain.result.now.set) (sym c.new.ensures) c.plain.ensures)))
