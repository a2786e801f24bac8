-- what is needed are the literals of the false clause
use Rattle.std.proofs.Common.{◌∙◌, ◌++◌, ◌∷◌, [], ap}
use Rattle.lv_trail.proofs.AnalysisLemmas.{pending_start}
use Rattle.lv_trail.proofs.analysis.Analysis.begin.Goals as goal

pub returns : goal.returns
returns c =
    pending_start c.args.reasons.set.now c.args.reasons.log.now c.args.conflict.entries.now c.requires.chain c.args.conflict.hint c.begin.new.self.marks.items c.take_reason.new.self.seen.marks.items c.take_reason.new.self.hints.items c.requires.refuted
    (c.in_ok-begin.ensures ∙ c.bools.ensures) c.in_ok-take_reason.ensures.seen (c.in_ok-take_reason.ensures.hints ∙ ap (λ hs. hs ++ c.args.conflict.hint ∷ []) c.clear.ensures.items)
