-- none is wanted, a support was found, or there is none
use Rattle.std.proofs.Common.{sym, ap, subst, ◌∙◌, arith}
use Rattle.lv_clauses.specs.Marks.{Marks, is_marked}
use Rattle.lv_ltms.specs.Labelled.{Labelled}
use Rattle.lv_ltms.specs.Revising.{GetsSupport, GivesReason, is_wanted_by}
use Rattle.lv_ltms.proofs.LabelLemmas.{room_left}
use Rattle.lv_ltms.proofs.SupportLemmas.{supported_unwanted, supported_by_none, supported_found, wanted_parts}
use Rattle.lv_ltms.proofs.revision.support.Goals as goal

pub returns-then-not-is_wanted : goal.returns-then-not-is_wanted
returns-then-not-is_wanted c =
    supported_unwanted (is_marked c.args.grounds.assumed.now) c.args.grounds.near.now c.args.grounds.far.now c.args.labels.now c.args.lit c.requires.labels.agrees c.requires.one_sided c.requires.against
    (ap (λ (m : Marks). is_wanted_by (is_marked c.args.grounds.assumed.now) (is_marked m) c.args.lit) (sym c.marks.ensures) ∙ sym c.if-not-is_wanted.ensures)

pub push-requires-clause-room : goal.push-requires-clause-room
push-requires-clause-room c =
    let wanted = wanted_parts (is_marked c.args.grounds.assumed.now) (is_marked c.args.labels.now.marks) c.args.lit (ap (λ (m : Marks). is_wanted_by (is_marked c.args.grounds.assumed.now) (is_marked m) c.args.lit) (sym c.marks.ensures) ∙ sym c.if-not-is_wanted.ensures) in
    room_left c.args.labels.now (record { lit = c.args.lit; reason = c.in-Some.reason }) c.requires.range (omega (arith, c.requires.range, c.requires.labels.supports)) wanted.not_true wanted.not_false c.requires.labels.agrees

pub returns-in-Some : goal.returns-in-Some
returns-in-Some c =
    let wanted = wanted_parts (is_marked c.args.grounds.assumed.now) (is_marked c.args.labels.now.marks) c.args.lit (ap (λ (m : Marks). is_wanted_by (is_marked c.args.grounds.assumed.now) (is_marked m) c.args.lit) (sym c.marks.ensures) ∙ sym c.if-not-is_wanted.ensures) in
    subst (λ (x : Labelled). GetsSupport (is_marked c.args.grounds.assumed.now) c.args.grounds.near.now c.args.grounds.far.now c.args.labels.now x c.args.lit) (sym c.push.ensures)
    (supported_found (is_marked c.args.grounds.assumed.now) c.args.grounds.near.now c.args.grounds.far.now c.args.labels.now c.args.lit c.requires.labels.agrees c.requires.one_sided c.requires.against
    c.in-Some.reason (subst (GivesReason (is_marked c.args.grounds.assumed.now) c.args.grounds.near.now c.args.grounds.far.now c.args.lit) c.in-Some.is c.reason_for.ensures) c.requires.range (omega (arith, c.requires.range, c.requires.labels.supports)) wanted.not_true wanted.not_false wanted.free)

pub returns-in_default : goal.returns-in_default
returns-in_default c =
    supported_by_none (is_marked c.args.grounds.assumed.now) c.args.grounds.near.now c.args.grounds.far.now c.args.labels.now c.args.lit c.requires.labels.agrees c.requires.one_sided c.requires.against
    (subst (GivesReason (is_marked c.args.grounds.assumed.now) c.args.grounds.near.now c.args.grounds.far.now c.args.lit) c.in_default.is c.reason_for.ensures)
