use Rattle.lv_certcheck.specs.Settings.{plant_of}
use Rattle.lv_certcheck.proofs.JudgeLemmas.{fits_observed}
use Rattle.lv_certcheck.proofs.judge.Judge.observe.Goals as goal

-- src/judge.rt:216:5
pub returns-clause-fits : goal.returns-clause-fits
returns-clause-fits c = λ good.
    fits_observed (plant_of c.args.self.now.setting) c.args.self.now.setting.system.now c.args.judged.now c.args.moment c.args.o c.lit_of-lit.result c.push_observation.new.self c.requires.judges.fits c.requires.observation c.in_ok-push_observation.ensures
