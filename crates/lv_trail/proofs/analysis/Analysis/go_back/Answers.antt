-- each entry is left out, stays or gives way to its reason
use Rattle.std.proofs.Common.{length, refl, ◌-◌, false, None, ℕ, subst, arith}
use Rattle.lv_trail.specs.declared.trail.Entry.{Entry}
use Rattle.lv_trail.specs.Trail.{lits_of}
use Rattle.lv_trail.specs.Analysis.{left_at, IsPending}
use Rattle.lv_trail.proofs.AnalysisLemmas.{pending_back, pending_first, pending_last}
use Rattle.lv_trail.proofs.analysis.Analysis.go_back.Goals as goal

abbrev blank : Entry
blank = record { lit = record { var = record { 0 = 0 }; sign = false }; reason = None }

pub loop-at-init : goal.loop-at-init
loop-at-init c =
    record {
      within = omega arith;
      pending = pending_last c.args.reasons.set.now c.args.reasons.log.now c.args.entries.now c.requires.chain (length c.args.entries.now) c.args.self.now.seen.marks.items c.args.self.now.hints.items refl c.requires.pending;
    }

pub loop-at-preserved : goal.loop-at-preserved
loop-at-preserved c =
    let at : ℕ = c.loop-at.at - 1 in
    record {
      within = omega (arith, c.loop-at.invariant.within);
      pending =
          pending_back c.args.reasons.set.now c.args.reasons.log.now c.args.entries.now c.requires.chain at blank (omega (arith, c.loop-at.invariant.within, c.loop-at-test.true)) c.loop-at.self.seen.marks.items c.loop-at.self.hints.items c.pass.new.self.seen.marks.items c.pass.new.self.hints.items
          (subst (λ k. IsPending c.args.reasons.set.now c.args.reasons.log.now c.args.entries.now (lits_of (left_at k c.args.entries.now)) c.loop-at.self.seen.marks.items c.loop-at.self.hints.items) (omega (arith, c.loop-at-test.true)) c.loop-at.invariant.pending) c.in_ok-pass.ensures;
    }

pub returns : goal.returns
returns c =
    pending_first c.args.reasons.set.now c.args.reasons.log.now c.args.entries.now c.requires.chain c.loop-at.at c.loop-at.self.seen.marks.items c.loop-at.self.hints.items (omega (arith, c.loop-at-test.false)) c.loop-at.invariant.pending
