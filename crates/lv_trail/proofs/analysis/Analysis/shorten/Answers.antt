-- an entry that gives way isn't needed any more
use Rattle.std.proofs.Common.{ℕ, ◌-◌, ◌≤◌, None, false, arith}
use Rattle.lv_trail.specs.declared.trail.Entry.{Entry}
use Rattle.lv_trail.proofs.ShorterLemmas.{pending_replaced}
use Rattle.lv_trail.proofs.analysis.Analysis.shorten.Goals as goal

abbrev blank : Entry
blank = record { lit = record { var = record { 0 = 0 }; sign = false }; reason = None }

pub loop-at-preserved-in-Continue-1 : goal.loop-at-preserved-in-Continue-1
loop-at-preserved-in-Continue-1 c =
    let at : ℕ = c.loop-at.at - 1 in
    let below : at ≤ c.args.place = omega (arith, c.loop-at.invariant.within) in
    record {
      within = below;
      pending =
          pending_replaced c.args.reasons.set.now c.args.reasons.log.now c.args.entries.now c.requires.chain at blank (omega (arith, below, c.requires.within)) c.args.place below c.come_to.new.self.marks.items c.loop-at.self.hints.items c.replace.new.self.seen.marks.items c.replace.new.self.hints.items
          (rw (← c.come_to.ensures) at c.loop-at.invariant.pending) c.in_ok-replace.ensures;
    }
