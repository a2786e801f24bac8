-- the literal that is added is forced
use Rattle.std.proofs.Common.{Some, sym, subst}
use Rattle.std.proofs.lemmas.Option.{same_Some}
use Rattle.lv_clauses.specs.Marks.{marked}
use Rattle.lv_trail.specs.Trail.{IsTrail, IsForced, lits_of}
use Rattle.lv_trail.proofs.TrailLemmas.{trail_push}
use Rattle.lv_trail.proofs.trail.Trail.force.Goals as goal

pub returns-in_ok-push-clause-trail : goal.returns-in_ok-push-clause-trail
returns-in_ok-push-clause-trail c =
    λ cs log trail forced.
    subst (λ m. IsTrail cs log m c.push.new.self.entries.items) (sym c.in_ok-push.ensures.marks)
    (subst (IsTrail cs log (marked c.args.self.now.marks.items c.args.lit)) (sym c.in_ok-push.ensures.entries)
    (trail_push cs log c.args.self.now.marks.items c.args.self.now.entries.items trail (record { lit = c.args.lit; reason = Some c.args.hint }) (sym c.if-is_open.ensures)
    (λ k is. subst (IsForced cs.slots log (lits_of c.args.self.now.entries.items) c.args.lit) (same_Some c.args.hint k is) forced)))
