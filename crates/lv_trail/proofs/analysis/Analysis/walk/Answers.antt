-- each entry is left out or gives way to its reason
use Rattle.std.proofs.Common.{◌≡◌, ◌-◌, false, None, Some, Option, IfNone, ℕ, refl, sym, subst, arith}
use Rattle.std.proofs.Math.Seq.{take-length}
use Rattle.lv_trail.specs.declared.trail.Entry.{Entry}
use Rattle.lv_trail.specs.Trail.{lits_of}
use Rattle.lv_trail.specs.Analysis.{IsForcedIfSeen, IsPending}
use Rattle.lv_trail.proofs.AnalysisLemmas.{pending_walk}
use Rattle.lv_trail.proofs.analysis.Analysis.walk.Goals as goal

abbrev blank : Entry
blank = record { lit = record { var = record { 0 = 0 }; sign = false }; reason = None }

-- where there is no cut, what is said of that holds
none_left : (o : Option ℕ) (A : Type 0) → ((n : ℕ) → o ≡ Some n → ⊥) → IfNone o A → A
none_left None A never told = told
none_left (Some n) A never told = absurd (never n refl)

pub loop-at-init : goal.loop-at-init
loop-at-init c =
    record {
      floor = c.requires.floor;
      within = omega arith;
      pending = subst (λ es. IsPending c.args.reasons.set.now c.args.reasons.log.now c.args.entries.now (lits_of es) c.args.self.now.seen.marks.items c.args.self.now.hints.items) (sym (take-length c.args.entries.now)) c.requires.pending;
    }

pub loop-at-preserved : goal.loop-at-preserved
loop-at-preserved c =
    let at : ℕ = c.loop-at.at - 1 in
    record {
      floor = omega arith;
      within = omega (arith, c.loop-at.invariant.within);
      pending =
          pending_walk c.args.reasons.set.now c.args.reasons.log.now c.args.entries.now c.requires.chain at blank (omega (arith, c.loop-at.invariant.within, c.loop-at-test.true)) c.cut_at.new.self.seen.marks.items c.cut_at.new.self.hints.items c.pass.new.self.seen.marks.items c.pass.new.self.hints.items
          c.in_ok-cut.ensures.pending (none_left c.in_ok-cut.field-0 (IsForcedIfSeen c.cut_at.new.self.seen.marks.items c.args.entries.now at) c.in_default.not-Some c.in_ok-cut.ensures.forced) c.in_ok-pass.ensures;
    }
