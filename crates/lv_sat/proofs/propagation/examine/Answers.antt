-- a false clause is found, or a literal is forced
use Rattle.std.proofs.Common.{refl, sym, ap, subst, ◌∙◌}
use Rattle.std.proofs.lemmas.Option.{same_Some, none-some}
use Rattle.lv_clauses.specs.Marks.{look_at}
use Rattle.lv_trail.specs.Trail.{IsFalse, lits_of}
use Rattle.lv_trail.proofs.TrailLemmas.{look_false, look_unit, front_self}
use Rattle.lv_sat.proofs.propagation.examine.Goals as goal

pub returns-in-AllFalse : goal.returns-in-AllFalse
returns-in-AllFalse c =
    record {
      extended =
          record {
            trail = c.requires;
            front = front_self c.args.trail.now.entries.items;
            refuted =
                λ h is. subst (IsFalse c.args.reasons.set.now.slots c.args.reasons.log.now (lits_of c.args.trail.now.entries.items)) (same_Some c.args.hint h is)
                (look_false c.args.reasons.set.now c.args.reasons.log.now c.args.trail.now.marks.items c.args.trail.now.entries.items c.args.hint c.in-Some.clause.now c.requires (sym c.in-Some.ensures)
                (ap (λ m. look_at m c.in-Some.clause.now) (sym c.marks.ensures) ∙ sym c.in-AllFalse.ensures));
          };
      forced = refl;
    }

pub returns-in_ok-force-in-Unit : goal.returns-in_ok-force-in-Unit
returns-in_ok-force-in-Unit c =
    record {
      extended =
          record {
            trail =
                c.in_ok-force-in-Unit.ensures.trail c.args.reasons.set.now c.args.reasons.log.now c.requires
                (look_unit c.args.reasons.set.now c.args.reasons.log.now c.args.trail.now.marks.items c.args.trail.now.entries.items c.args.hint c.in-Some.clause.now c.in-Unit.lit c.requires (sym c.in-Some.ensures)
                (ap (λ m. look_at m c.in-Some.clause.now) (sym c.marks.ensures) ∙ sym c.in-Unit.ensures));
            front = c.in_ok-force-in-Unit.ensures.front;
            refuted = λ h is. absurd (none-some h is);
          };
      forced = c.in_ok-force-in-Unit.ensures.forced;
    }
