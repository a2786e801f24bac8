use Rattle.lv_certcheck.proofs.JudgeLemmas.{split_told}
use Rattle.std.proofs.Common.{sym, ◌∙◌}
use Rattle.lv_certcheck.specs.Settings.{plant_of}
use Rattle.lv_cert.specs.declared.line.Evidence.TheVariants as evidence
use Rattle.lv_certcheck.proofs.judge.Judge.split.Goals as goal

-- src/judge.rt:561:5
pub returns-in-Conflict-clause-judged : goal.returns-in-Conflict-clause-judged
returns-in-Conflict-clause-judged c =
    split_told (plant_of c.args.self.now.setting) c.args.judged.now c.split_by_conflict.new.judged c.args.n c.args.by (evidence.Conflict c.in-Conflict.j) c.in-Some.source c.split_by_conflict.result c.in-Conflict.is (sym c.source_of.ensures ∙ c.in-Some.is)
    (λ zone e source. c.split_by_conflict.ensures.judged zone e)

-- src/judge.rt:561:5
pub returns-in-Listed-clause-judged : goal.returns-in-Listed-clause-judged
returns-in-Listed-clause-judged c =
    split_told (plant_of c.args.self.now.setting) c.args.judged.now c.split_by_listed.new.judged c.args.n c.args.by (evidence.Listed c.in-Listed.j) c.in-Some.source c.split_by_listed.result c.in-Listed.is (sym c.source_of.ensures ∙ c.in-Some.is)
    c.split_by_listed.ensures.judged

-- src/judge.rt:561:5
pub returns-in-Recovery-clause-judged : goal.returns-in-Recovery-clause-judged
returns-in-Recovery-clause-judged c =
    split_told (plant_of c.args.self.now.setting) c.args.judged.now c.split_by_listed-in-Recovery.new.judged c.args.n c.args.by evidence.Recovery c.in-Some.source c.split_by_listed-in-Recovery.result c.in-Recovery.is (sym c.source_of.ensures ∙ c.in-Some.is)
    c.split_by_listed-in-Recovery.ensures.judged

-- src/judge.rt:561:5
pub returns-in-Target-clause-judged : goal.returns-in-Target-clause-judged
returns-in-Target-clause-judged c =
    split_told (plant_of c.args.self.now.setting) c.args.judged.now c.split_by_target.new.judged c.args.n c.args.by (evidence.Target c.in-Target.j) c.in-Some.source c.split_by_target.result c.in-Target.is (sym c.source_of.ensures ∙ c.in-Some.is)
    (λ zone e source. c.split_by_target.ensures.judged zone e)
