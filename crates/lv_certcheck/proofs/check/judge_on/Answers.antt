-- the first of the lines that are left, and the others
use Rattle.std.proofs.Common.{◌∙◌, ◌+◌, Bool, sym, ap, arith}
use Rattle.lv_cert_laws.specs.lv_cert_meaning.Judging.{judgement}
use Rattle.lv_certcheck.specs.Settings.{plant_of}
use Rattle.lv_certcheck.specs.Verdicts.{judged_of, came}
use Rattle.lv_certcheck.proofs.LineLemmas.{goes_on}
use Rattle.lv_certcheck.proofs.check.judge_on.Goals as goal

pub loop-at-preserved : goal.loop-at-preserved
loop-at-preserved c =
    record {
      rest =
          goes_on c.args.judge.now.question (plant_of c.args.judge.now.setting) (c.loop-at.at + 1) c.loop-at.at (c.loop-at.at + 1) (judged_of c.loop-at.judged) (judged_of c.line.new.judged) c.args.lines.now
          c.index-lines-at.result (judgement (plant_of c.args.judge.now.setting) c.args.lines.now) (omega arith) c.loop-at-test.true c.index-lines-at.is
          (sym (ap (λ (b : Bool). came b c.line.new.judged) c.if-not-branch.false) ∙ c.in_ok-line.ensures.judged) c.loop-at.invariant.rest;
      fits = c.in_ok-line.ensures.fits c.if-not-branch.false;
    }
