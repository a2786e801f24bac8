-- the assumption is of a free boolean
use Rattle.std.proofs.Common.{None, sym, subst}
use Rattle.lv_clauses.specs.Marks.{marked}
use Rattle.lv_trail.specs.Trail.{IsTrail}
use Rattle.lv_trail.proofs.TrailLemmas.{trail_push, none_at}
use Rattle.lv_sat.proofs.search.Search.take_on.Goals as goal

pub propagate-requires : goal.propagate-requires
propagate-requires c =
    subst (λ m. IsTrail c.args.reasons.set.now c.args.reasons.log.now m c.push.new.self.entries.items) (sym c.in_ok-push.ensures.marks)
    (subst (IsTrail c.args.reasons.set.now c.args.reasons.log.now (marked c.args.self.now.trail.marks.items c.args.lit)) (sym c.in_ok-push.ensures.entries)
    (trail_push c.args.reasons.set.now c.args.reasons.log.now c.args.self.now.trail.marks.items c.args.self.now.trail.entries.items c.requires.trail (record { lit = c.args.lit; reason = None }) c.requires.free (λ h is. absurd (none_at h is))))
