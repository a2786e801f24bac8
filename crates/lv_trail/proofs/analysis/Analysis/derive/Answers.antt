-- the walk begins at the false clause; what it ends with is the step, or it goes on through the front
use Rattle.std.proofs.Common.{◌∙◌, subst}
use Rattle.lv_trail.specs.Analysis.{StopsAt}
use Rattle.lv_trail.proofs.TrailLemmas.{chain_take}
use Rattle.lv_trail.proofs.AnalysisLemmas.{pending_front, turns}
use Rattle.lv_trail.proofs.analysis.Analysis.derive.Goals as goal

pub returns-in_ok-add_step-in-Some : goal.returns-in_ok-add_step-in-Some
returns-in_ok-add_step-in-Some c =
    turns c.args.set.now c.args.log.now c.args.conflict.entries.now c.requires.chain c.args.floor c.in-Some.flip c.walk.new.self.seen.marks.items c.walk.new.self.hints.items c.add_step.new.log c.as_slice.result.now
    (subst (StopsAt c.args.set.now c.args.log.now c.args.conflict.entries.now c.args.floor c.walk.new.self.seen.marks.items c.walk.new.self.hints.items) c.in-Some.is c.in_ok-flip.ensures)
    (c.as_slice.ensures.value ∙ c.in_ok-clause-in-Some.ensures) c.in_ok-add_step-in-Some.ensures

pub settle-requires-clause-chain : goal.settle-requires-clause-chain
settle-requires-clause-chain c = chain_take c.args.set.now c.args.log.now c.args.conflict.entries.now c.requires.chain c.args.floor c.requires.floor

pub settle-requires-clause-pending : goal.settle-requires-clause-pending
settle-requires-clause-pending c =
    pending_front c.args.set.now c.args.log.now c.args.conflict.entries.now c.requires.chain c.args.floor c.walk.new.self.seen.marks.items c.walk.new.self.hints.items
    (subst (StopsAt c.args.set.now c.args.log.now c.args.conflict.entries.now c.args.floor c.walk.new.self.seen.marks.items c.walk.new.self.hints.items) c.in-None.is c.in_ok-flip.ensures)
