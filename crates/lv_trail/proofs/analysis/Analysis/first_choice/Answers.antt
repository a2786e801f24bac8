-- each entry passed wasn't seen, and where it is a choice, it is the first one so far
use Rattle.std.proofs.Common.{◌≡◌, ◌∙◌, ◌-◌, ◌<◌, ◌≤◌, ℕ, None, false, length, refl, sym, ap, take, arith}
use Rattle.lv_trail.specs.declared.trail.Entry.{Entry}
use Rattle.lv_trail.specs.Analysis.{needed}
use Rattle.lv_trail.proofs.CutLemmas.{needed_less, cut_step, forced_step, forced_start}
use Rattle.lv_trail.proofs.analysis.Analysis.first_choice.Goals as goal

abbrev blank : Entry
blank = record { lit = record { var = record { 0 = 0 }; sign = false }; reason = None }

pub loop-below-init : goal.loop-below-init
loop-below-init c =
    record {
      floor = c.requires.floor;
      within = omega arith;
      unseen = refl;
      found = cut_step c.args.entries.now c.args.self.now.seen.marks.items c.args.floor c.args.at c.args.at blank None c.choice_at-cut.result c.choice_at-cut.ensures c.requires.within c.requires.floor (omega arith) refl tt;
      forced = forced_start c.args.entries.now c.args.at blank c.choice_at-cut.result c.requires.within c.choice_at-cut.ensures;
    }

pub loop-below-preserved : goal.loop-below-preserved
loop-below-preserved c =
    let below : ℕ = c.loop-below.below - 1 in
    let inside : below < length c.args.entries.now = omega (arith, c.loop-below.invariant.within, c.requires.within) in
    let above : c.args.floor ≤ below = omega (arith, c.loop-below-test.true) in
    let before : below ≤ c.args.at = omega (arith, c.loop-below.invariant.within) in
    let unseen : needed c.args.self.now.seen.marks.items (take c.args.at c.args.entries.now) ≡ needed c.args.self.now.seen.marks.items (take below c.args.entries.now)
    = c.loop-below.invariant.unseen
    ∙ ap (λ k. needed c.args.self.now.seen.marks.items (take k c.args.entries.now)) (omega (arith, c.loop-below-test.true))
    ∙ needed_less c.args.entries.now c.args.self.now.seen.marks.items below blank inside (sym c.sees.ensures ∙ c.if-sees.false) in
    record {
      floor = above;
      within = before;
      unseen = unseen;
      found = cut_step c.args.entries.now c.args.self.now.seen.marks.items c.args.floor c.args.at below blank c.loop-below.cut c.choice_at-cut-in-loop-below.result c.choice_at-cut-in-loop-below.ensures inside above before unseen c.loop-below.invariant.found;
      forced = forced_step c.args.entries.now c.args.at below blank c.loop-below.cut c.choice_at-cut-in-loop-below.result c.choice_at-cut-in-loop-below.ensures c.loop-below.invariant.forced;
    }
