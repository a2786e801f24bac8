-- the block's clauses are the plant's and its own
use Rattle.lv_certcheck.specs.Settings.{plant_of}
use Rattle.lv_certcheck.proofs.CheckLemmas.{clause_came}
use Rattle.lv_certcheck.proofs.judge.Judge.clause.Goals as goal

pub returns-clause-judged : goal.returns-clause-judged
returns-clause-judged c =
    clause_came (plant_of c.args.self.now.setting) c.args.self.now.setting.system.now c.requires.setting.system_is c.args.judged.now c.derive.new.self c.in_ok-good.good c.args.lits.now c.args.hints.now
    c.requires.fits.block_is c.in_ok-good.ensures.good c.in_ok-good.ensures.added
