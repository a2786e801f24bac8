-- the front stays with the clause and what was refuted, and the last values, if they make it true
use Rattle.std.proofs.Common.{IfSome, sym, subst}
use Rattle.lv_clauses.specs.ClauseMap.{ClauseMap}
use Rattle.lv_sat.specs.Front.{IsKept}
use Rattle.lv_last_values.specs.Occurrences.{IsUpToDate}
use Rattle.lv_sat.specs.Solver.{Refutes}
use Rattle.lv_sat.proofs.FrontLemmas.{kept_still}
use Rattle.lv_sat.proofs.RefutedLemmas.{refuted_still}
use Rattle.lv_sat.proofs.solver.Solver.add.Goals as goal

pub take_in-requires : goal.take_in-requires
take_in-requires c =
    kept_still c.self.inside.set c.add.new.self c.in_ok-id.id.0 c.args.lits.now c.in_ok-id.ensures.added c.in_ok-id.ensures.vacant c.self.inside.front.levels.items c.self.inside.front.search.trail.marks.items c.self.inside.front.search.trail.entries.items
    c.self.invariant.front

pub invariant_of-self : goal.invariant_of-self
invariant_of-self c =
    record {
      front =
          subst (λ (set : ClauseMap). IsKept set c.self.inside.front.levels.items c.self.inside.front.search.trail.marks.items c.self.inside.front.search.trail.entries.items) (sym c.in_err-id.ensures.kept)
          c.self.invariant.front;
      last = subst (λ (set : ClauseMap). IsUpToDate set c.self.inside.last.values c.self.inside.last.occurrences) (sym c.in_err-id.ensures.kept) c.self.invariant.last;
      refuted = subst (λ (set : ClauseMap). IfSome c.self.inside.refuted (Refutes set)) (sym c.in_err-id.ensures.kept) c.self.invariant.refuted;
    }

pub invariant_of-self-2 : goal.invariant_of-self-2
invariant_of-self-2 c =
    record {
      front = c.take_in.ensures;
      last = c.add-2.ensures c.self.inside.set c.add.new.self c.self.invariant.last c.in_ok-id.ensures.added;
      refuted = refuted_still c.self.inside.set c.add.new.self c.in_ok-id.id.0 c.args.lits.now c.in_ok-id.ensures.added c.in_ok-id.ensures.vacant c.self.inside.refuted c.self.invariant.refuted;
    }
