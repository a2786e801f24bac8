-- each link stays or falls
use Rattle.std.proofs.Common.{◌≡◌, ℕ, ◌<◌, ◌≤◌, ◌&&◌, ◌+◌, not, true, false, List, [], length, take, get_or, Vec, Global, vec_capacity, refl, sym, ap, subst, ◌∙◌, arith, inl, inr}
use Rattle.std.proofs.lemmas.List.{take_all}
use Rattle.lv_base.specs.declared.ids.Lit.{Lit}
use Rattle.lv_clauses.specs.Literals.{neg}
use Rattle.lv_clauses.specs.Marks.{Marks, is_marked}
use Rattle.lv_ltms.specs.declared.labels.Link.{Link}
use Rattle.lv_ltms.specs.declared.labels.Reason.TheVariants.{Assumed}
use Rattle.lv_ltms.specs.Labelled.{Labelled, AreLabels}
use Rattle.lv_ltms.specs.Standing.{true_before}
use Rattle.lv_ltms.specs.Revising.{reason_stands, IsSwept}
use Rattle.lv_ltms.specs.Reaching.{StaysOn}
use Rattle.lv_ltms.proofs.StayLemmas.{stays_start, stays_kept, stays_fallen, stays_same}
use Rattle.lv_ltms.proofs.SweepingLemmas.{IsSweeping, sweeping_start, sweeping_keep, sweeping_fall, sweeping_link_within, sweeping_labels, sweeping_done, sweeping_within, sweeping_looked, sweeping_same}
use Rattle.lv_ltms.proofs.revision.sweep.Goals as goal
use Rattle.lv_ltms.proofs.revision.sweep.Goals.{then-stands+then-at-done, then-stands+else-at-done, else-stands}

abbrev blank : Link
blank = record { lit = record { var = record { 0 = 0 }; sign = false }; reason = Assumed }

pub loop-at-init : goal.loop-at-init
loop-at-init c =
    record {
      sweeping =
          subst (λ (f : List Lit). IsSweeping (is_marked c.args.grounds.assumed.now) (length c.args.labels.now.marks) c.args.grounds.arena.now c.args.labels.now c.args.done c.args.from c.args.from c.min-looked.result c.args.labels.now f) (sym c.requires.empty)
          (subst (λ (n : ℕ). IsSweeping (is_marked c.args.grounds.assumed.now) (length c.args.labels.now.marks) c.args.grounds.arena.now c.args.labels.now c.args.done c.args.from c.args.from n c.args.labels.now []) (sym c.min-looked.ensures)
          (sweeping_start (is_marked c.args.grounds.assumed.now) (length c.args.labels.now.marks) c.args.labels.now c.args.grounds.arena.now c.args.done c.args.from c.requires.labels c.requires.place c.requires.shaken));
      room = refl;
      stays = λ to without. stays_start c.args.grounds.arena.now c.args.labels.now.trail to (take c.args.from c.args.labels.now.trail);
    }

pub unmark-requires : goal.unmark-requires
unmark-requires c =
    let within : c.loop-at.at < length c.loop-at.labels.trail = omega (arith, c.loop-at-test.true, ap (λ (t : List Link). length t) c.trail-at-end.ensures, c.loop-at.invariant.sweeping.len) in
    sweeping_link_within (is_marked c.args.grounds.assumed.now) (length c.args.labels.now.marks) c.args.labels.now c.args.grounds.arena.now c.args.done c.loop-at.at c.loop-at.kept c.loop-at.looked c.loop-at.labels c.loop-at.fallen.items (get_or c.trail.result.now c.loop-at.at blank) blank c.requires.shaken.backed c.requires.labels.agrees within (ap (λ (t : List Link). get_or t c.loop-at.at blank) (sym c.trail.ensures)) c.loop-at.invariant.sweeping

pub loop-at-preserved : goal.loop-at-preserved
loop-at-preserved c =
    let within : c.loop-at.at < length c.loop-at.labels.trail = omega (arith, c.loop-at-test.true, ap (λ (t : List Link). length t) c.trail-at-end.ensures, c.loop-at.invariant.sweeping.len) in
    elim c.if-stands.branch [
      | then-stands+then-at-done w ↦
          let stands = ap (λ (m : Marks). not (is_marked c.args.grounds.assumed.now (neg (get_or c.trail.result.now c.loop-at.at blank).lit)) && reason_stands (is_marked c.args.grounds.assumed.now) c.args.grounds.arena.now (is_marked m) (get_or c.trail.result.now c.loop-at.at blank).lit (get_or c.trail.result.now c.loop-at.at blank).reason) (sym c.marks.ensures) ∙ sym w.if-stands.ensures in
          record {
            sweeping =
                sweeping_same w.kept-is w.looked-is (w.labels-is ∙ w.put.ensures) (ap (λ (v : Vec Lit Global). v.items) w.fallen-is)
                (sweeping_keep (is_marked c.args.grounds.assumed.now) (length c.args.labels.now.marks) c.args.labels.now c.args.grounds.arena.now c.args.done c.loop-at.at c.loop-at.kept c.loop-at.looked c.loop-at.labels c.loop-at.fallen.items (get_or c.trail.result.now c.loop-at.at blank) blank c.requires.shaken.backed c.requires.labels.agrees within (ap (λ (t : List Link). get_or t c.loop-at.at blank) (sym c.trail.ensures)) c.loop-at.invariant.sweeping stands (c.loop-at.kept + 1) (inl (refl, w.if-at-done.true)));
            room = ap vec_capacity w.fallen-is ∙ c.loop-at.invariant.room;
            stays =
                λ to without.
                stays_same w.kept-is (w.labels-is ∙ w.put.ensures)
                (stays_kept (is_marked c.args.grounds.assumed.now) (length c.args.labels.now.marks) c.args.labels.now c.args.grounds.arena.now c.args.done c.loop-at.at c.loop-at.kept c.loop-at.looked c.loop-at.labels c.loop-at.fallen.items (get_or c.trail.result.now c.loop-at.at blank) blank c.requires.shaken.backed c.requires.labels.agrees within (ap (λ (t : List Link). get_or t c.loop-at.at blank) (sym c.trail.ensures)) c.loop-at.invariant.sweeping to without (c.loop-at.invariant.stays to without) (omega (arith, within, c.loop-at.invariant.sweeping.order)));
          }
      | then-stands+else-at-done w ↦
          let stands = ap (λ (m : Marks). not (is_marked c.args.grounds.assumed.now (neg (get_or c.trail.result.now c.loop-at.at blank).lit)) && reason_stands (is_marked c.args.grounds.assumed.now) c.args.grounds.arena.now (is_marked m) (get_or c.trail.result.now c.loop-at.at blank).lit (get_or c.trail.result.now c.loop-at.at blank).reason) (sym c.marks.ensures) ∙ sym w.if-stands.ensures in
          record {
            sweeping =
                sweeping_same w.kept-is w.looked-is (w.labels-is ∙ w.put.ensures) (ap (λ (v : Vec Lit Global). v.items) w.fallen-is)
                (sweeping_keep (is_marked c.args.grounds.assumed.now) (length c.args.labels.now.marks) c.args.labels.now c.args.grounds.arena.now c.args.done c.loop-at.at c.loop-at.kept c.loop-at.looked c.loop-at.labels c.loop-at.fallen.items (get_or c.trail.result.now c.loop-at.at blank) blank c.requires.shaken.backed c.requires.labels.agrees within (ap (λ (t : List Link). get_or t c.loop-at.at blank) (sym c.trail.ensures)) c.loop-at.invariant.sweeping stands c.loop-at.looked (inr refl));
            room = ap vec_capacity w.fallen-is ∙ c.loop-at.invariant.room;
            stays =
                λ to without.
                stays_same w.kept-is (w.labels-is ∙ w.put.ensures)
                (stays_kept (is_marked c.args.grounds.assumed.now) (length c.args.labels.now.marks) c.args.labels.now c.args.grounds.arena.now c.args.done c.loop-at.at c.loop-at.kept c.loop-at.looked c.loop-at.labels c.loop-at.fallen.items (get_or c.trail.result.now c.loop-at.at blank) blank c.requires.shaken.backed c.requires.labels.agrees within (ap (λ (t : List Link). get_or t c.loop-at.at blank) (sym c.trail.ensures)) c.loop-at.invariant.sweeping to without (c.loop-at.invariant.stays to without) (omega (arith, within, c.loop-at.invariant.sweeping.order)));
          }
      | else-stands w ↦
          let falls = ap (λ (m : Marks). not (is_marked c.args.grounds.assumed.now (neg (get_or c.trail.result.now c.loop-at.at blank).lit)) && reason_stands (is_marked c.args.grounds.assumed.now) c.args.grounds.arena.now (is_marked m) (get_or c.trail.result.now c.loop-at.at blank).lit (get_or c.trail.result.now c.loop-at.at blank).reason) (sym c.marks.ensures) ∙ sym w.if-stands.ensures in
          record {
            sweeping =
                sweeping_same w.kept-is w.looked-is (w.labels-is ∙ w.unmark.ensures) (ap (λ (v : Vec Lit Global). v.items) w.fallen-is ∙ w.push_reserved.ensures.items)
                (sweeping_fall (is_marked c.args.grounds.assumed.now) (length c.args.labels.now.marks) c.args.labels.now c.args.grounds.arena.now c.args.done c.loop-at.at c.loop-at.kept c.loop-at.looked c.loop-at.labels c.loop-at.fallen.items (get_or c.trail.result.now c.loop-at.at blank) blank c.requires.shaken.backed c.requires.labels.agrees within (ap (λ (t : List Link). get_or t c.loop-at.at blank) (sym c.trail.ensures)) c.loop-at.invariant.sweeping);
            room = ap vec_capacity w.fallen-is ∙ w.push_reserved.ensures.capacity ∙ c.loop-at.invariant.room;
            stays =
                λ to without.
                stays_same w.kept-is (w.labels-is ∙ w.unmark.ensures)
                (stays_fallen (is_marked c.args.grounds.assumed.now) (length c.args.labels.now.marks) c.args.labels.now c.args.grounds.arena.now c.args.done c.loop-at.at c.loop-at.kept c.loop-at.looked c.loop-at.labels c.loop-at.fallen.items (get_or c.trail.result.now c.loop-at.at blank) blank c.requires.shaken.backed c.requires.labels.agrees within (ap (λ (t : List Link). get_or t c.loop-at.at blank) (sym c.trail.ensures)) c.loop-at.invariant.sweeping to without (c.loop-at.invariant.stays to without) falls);
          }
    ]

pub returns-clause-labels : goal.returns-clause-labels
returns-clause-labels c =
    subst (AreLabels (length c.args.labels.now.marks)) (sym c.cut.ensures)
    (sweeping_labels (is_marked c.args.grounds.assumed.now) (length c.args.labels.now.marks) c.args.labels.now c.args.grounds.arena.now c.args.done c.loop-at.at c.loop-at.kept c.loop-at.looked c.loop-at.labels c.loop-at.fallen.items (omega (arith, c.loop-at-test.false, ap (λ (t : List Link). length t) c.trail-at-end.ensures, c.loop-at.invariant.sweeping.len)) c.requires.labels.agrees c.loop-at.invariant.sweeping)

pub returns-clause-swept : goal.returns-clause-swept
returns-clause-swept c =
    subst (λ (x : Labelled). IsSwept (is_marked c.args.grounds.assumed.now) c.args.grounds.arena.now c.args.labels.now x c.loop-at.fallen.items) (sym c.cut.ensures)
    (sweeping_done (is_marked c.args.grounds.assumed.now) (length c.args.labels.now.marks) c.args.labels.now c.args.grounds.arena.now c.args.done c.loop-at.at c.loop-at.kept c.loop-at.looked c.loop-at.labels c.loop-at.fallen.items (omega (arith, c.loop-at-test.false, ap (λ (t : List Link). length t) c.trail-at-end.ensures, c.loop-at.invariant.sweeping.len)) c.requires.labels.agrees c.loop-at.invariant.sweeping)

pub returns-clause-within : goal.returns-clause-within
returns-clause-within c =
    subst (λ (x : Labelled). c.loop-at.looked ≤ length x.trail) (sym c.cut.ensures)
    (sweeping_within (is_marked c.args.grounds.assumed.now) (length c.args.labels.now.marks) c.args.labels.now c.args.grounds.arena.now c.args.done c.loop-at.at c.loop-at.kept c.loop-at.looked c.loop-at.labels c.loop-at.fallen.items (omega (arith, c.loop-at-test.false, ap (λ (t : List Link). length t) c.trail-at-end.ensures, c.loop-at.invariant.sweeping.len)) c.requires.labels.agrees c.loop-at.invariant.sweeping)

pub returns-clause-looked : goal.returns-clause-looked
returns-clause-looked c =
    subst (λ (x : Labelled). (l : Lit) → true_before c.loop-at.looked x.trail l ≡ true → true_before c.args.done c.args.labels.now.trail l ≡ true) (sym c.cut.ensures)
    (sweeping_looked (is_marked c.args.grounds.assumed.now) (length c.args.labels.now.marks) c.args.labels.now c.args.grounds.arena.now c.args.done c.loop-at.at c.loop-at.kept c.loop-at.looked c.loop-at.labels c.loop-at.fallen.items (omega (arith, c.loop-at-test.false, ap (λ (t : List Link). length t) c.trail-at-end.ensures, c.loop-at.invariant.sweeping.len)) c.requires.labels.agrees c.loop-at.invariant.sweeping)

pub returns-clause-range : goal.returns-clause-range
returns-clause-range c = c.loop-at.invariant.sweeping.range

pub returns-clause-room : goal.returns-clause-room
returns-clause-room c = c.loop-at.invariant.room

pub returns-clause-stays : goal.returns-clause-stays
returns-clause-stays c =
    λ to without.
    subst (λ (x : Labelled). StaysOn c.args.grounds.arena.now c.args.labels.now.trail to c.args.labels.now.trail x.trail) (sym c.cut.ensures)
    (subst (λ (t : List Link). StaysOn c.args.grounds.arena.now c.args.labels.now.trail to t (take c.loop-at.kept c.loop-at.labels.trail))
    (take_all c.loop-at.at c.args.labels.now.trail (omega (arith, c.loop-at-test.false, ap (λ (t : List Link). length t) c.trail-at-end.ensures, c.loop-at.invariant.sweeping.len))) (c.loop-at.invariant.stays to without))
