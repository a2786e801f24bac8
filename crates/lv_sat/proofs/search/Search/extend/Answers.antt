-- a choice goes on from what was forced, and where there is none all is judged
use Rattle.std.proofs.lemmas.Result.{IfOk-weaker}
use Rattle.lv_sat.specs.Search.{IsReached, Reaches}
use Rattle.lv_sat.proofs.SearchLemmas.{extended_choice, reached_by}
use Rattle.lv_sat.proofs.search.Search.extend.Goals as goal

pub choices-preserved : goal.choices-preserved
choices-preserved c =
    extended_choice c.args.reasons.set.now c.args.reasons.log.now c.args.self.now.trail.entries.items c.choices.self.trail.entries.items c.propagate.new.trail.entries.items c.push.new.self.entries.items c.choices.self.trail.marks.items c.propagate.new.trail.marks.items c.push.new.self.marks.items
    c.in_ok-hint.field-0 c.in-Some-choose.lit c.choices.invariant c.in_ok-hint.ensures c.in-Some-choose.ensures.free c.in_ok-push-in-Some-choose.ensures.marks c.in_ok-push-in-Some-choose.ensures.entries

pub returns-in-None : goal.returns-in-None
returns-in-None c =
    IfOk-weaker c.judge.result (Reaches c.args.reasons.set.now c.args.reasons.log.now c.propagate.new.trail.marks.items c.propagate.new.trail.entries.items)
    (IsReached c.args.reasons.set.now c.args.reasons.log.now c.args.self.now.trail.entries.items c.propagate.new.trail.marks.items c.propagate.new.trail.entries.items)
    (λ reached reaches.
    reached_by c.args.reasons.set.now c.args.reasons.log.now c.args.self.now.trail.entries.items c.choices.self.trail.entries.items c.propagate.new.trail.entries.items c.choices.self.trail.marks.items c.propagate.new.trail.marks.items c.in_ok-hint.field-0 reached c.choices.invariant
    c.in_ok-hint.ensures reaches) c.judge.ensures
