-- what is left is a step
use Rattle.std.proofs.Common.{◌∙◌}
use Rattle.std.proofs.lemmas.Result.{on_ok_weaker}
use Rattle.lv_trail.proofs.AnalysisLemmas.{derived_unforced}
use Rattle.lv_trail.proofs.analysis.Analysis.settle.Goals as goal

pub returns : goal.returns
returns c =
    on_ok_weaker c.add_step.result
    (λ added. derived_unforced c.args.set.now c.args.log.now c.args.entries.now c.requires.chain c.go_back.new.self.seen.marks.items c.go_back.new.self.hints.items c.add_step.new.log c.as_slice.result.now c.in_ok-go_back.ensures
    (c.as_slice.ensures.value ∙ c.in_ok-clause.ensures) added) c.add_step.ensures
