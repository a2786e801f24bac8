-- what is forced first, and what follows from that
use Rattle.std.proofs.Common.{List, Option, None, subst}
use Rattle.std.proofs.lemmas.Result.{IfOk-weaker}
use Rattle.lv_clauses.specs.declared.log.Hint.{Hint}
use Rattle.lv_clauses.specs.declared.log.Step.{Step}
use Rattle.lv_trail.specs.Trail.{IsPropagated}
use Rattle.lv_sat.proofs.FrontLemmas.{kept_grown}
use Rattle.lv_trail.proofs.TrailLemmas.{propagated_then}
use Rattle.lv_sat.proofs.search.Search.force_by.Goals as goal

pub returns-in-None : goal.returns-in-None
returns-in-None c =
    λ levels blank kept.
    let first : IsPropagated c.args.reasons.set.now c.args.reasons.log.now c.args.self.now.trail.entries.items c.visit_all.new.trail.marks.items c.visit_all.new.trail.entries.items None =
    subst (λ (found : Option Hint). IsPropagated c.args.reasons.set.now c.args.reasons.log.now c.args.self.now.trail.entries.items c.visit_all.new.trail.marks.items c.visit_all.new.trail.entries.items found) c.in-None.is c.in_ok-hint.ensures in
    IfOk-weaker c.propagate.result _ _
    (λ found told.
    kept_grown c.args.reasons.set.now levels c.args.self.now.trail.marks.items c.propagate.new.trail.marks.items c.args.self.now.trail.entries.items c.propagate.new.trail.entries.items found kept
    (subst (λ (steps : List Step). IsPropagated c.args.reasons.set.now steps c.args.self.now.trail.entries.items c.propagate.new.trail.marks.items c.propagate.new.trail.entries.items found) blank
    (propagated_then c.args.reasons.set.now c.args.reasons.log.now c.args.self.now.trail.entries.items c.visit_all.new.trail.entries.items c.propagate.new.trail.entries.items c.visit_all.new.trail.marks.items c.propagate.new.trail.marks.items found first told)))
    c.propagate.ensures

pub returns-in-Some : goal.returns-in-Some
returns-in-Some c =
    λ levels blank kept.
    kept_grown c.args.reasons.set.now levels c.args.self.now.trail.marks.items c.visit_all.new.trail.marks.items c.args.self.now.trail.entries.items c.visit_all.new.trail.entries.items c.in_ok-hint.field-0 kept
    (subst (λ (steps : List Step). IsPropagated c.args.reasons.set.now steps c.args.self.now.trail.entries.items c.visit_all.new.trail.marks.items c.visit_all.new.trail.entries.items c.in_ok-hint.field-0) blank c.in_ok-hint.ensures)
