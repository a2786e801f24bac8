-- the counts of one step after the other are gathered
use Rattle.std.proofs.Common.{◌∙◌}
use Rattle.lv_compile.specs.WindowLaws.{counts_of}
use Rattle.lv_system.proofs.GatheringLemmas.{counts_more, counts_all}
use Rattle.lv_system.proofs.window.all_counts.Goals as goal

pub steps-preserved : goal.steps-preserved
steps-preserved c =
    counts_more c.args.model.now c.steps.left c.as_slice.result.now c.steps.counts.items c.extend_from_slice.new.self.items (counts_of c.args.model.now c.args.steps) c.steps-test.true
    c.steps.invariant (c.as_slice.ensures.value ∙ c.in_ok-own.ensures.counts) c.in_ok-extend_from_slice.ensures.items

pub returns : goal.returns
returns c = counts_all c.args.model.now c.steps.left c.steps.counts.items (counts_of c.args.model.now c.args.steps) c.steps-test.false c.steps.invariant
