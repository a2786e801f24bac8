use Rattle.std.proofs.Common.{◌≡◌, ◌+◌, drop}
use Rattle.lv_cert_laws.specs.lv_cert_meaning.Judging.{judge_lines, judgement}
use Rattle.lv_certcheck.specs.Settings.{plant_of}
use Rattle.lv_certcheck.specs.Giving.{Fits}
use Rattle.lv_certcheck.specs.Verdicts.{judged_of}
use Rattle.lv_certcheck.proofs.check.judge_on.Given as goal

-- the lines that are left come to what all come to
abbrev pub invariant-loop-at : goal.invariant-loop-at
invariant-loop-at l =
    record {
      rest : judge_lines l.judge.question (plant_of l.judge.setting) (l.at + 1) (judged_of l.judged) (drop l.at l.lines) ≡ judgement (plant_of l.judge.setting) l.lines;
      fits : Fits (plant_of l.judge.setting) l.judge.setting.system.now l.judged;
    }
