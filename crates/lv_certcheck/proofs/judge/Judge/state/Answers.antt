use Rattle.lv_certcheck.specs.Settings.{plant_of}
use Rattle.std.proofs.Common.{ap, arith, length}
use Rattle.lv_certcheck.specs.declared.judged.Judged.{Judged}
use Rattle.lv_certcheck.proofs.JudgeLemmas.{fits_state}
use Rattle.lv_certcheck.proofs.judge.Judge.state.Goals as goal

-- src/judge.rt:145:5
pub returns-in_ok-push_state-in-Some-clause-fits :
    goal.returns-in_ok-push_state-in-Some-clause-fits
returns-in_ok-push_state-in-Some-clause-fits c = λ good.
    let shown = ap (λ (j : Judged). length j.stated.tracked) c.judged.view_is in
    fits_state (plant_of c.args.self.now.setting) c.args.self.now.setting.system.now c.args.judged.now c.in-Some.state c.push_state.new.self c.requires.fits (omega (arith, c.if-len-from.false, c.len.ensures, c.from.ensures, shown))
    (rw c.in-Some.is at c.in_ok-state.ensures.fits) c.in_ok-push_state-in-Some.ensures
