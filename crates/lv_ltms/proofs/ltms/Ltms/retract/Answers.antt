-- what the assumption supported falls
use Rattle.std.proofs.Common.{◌≡◌, true, length, None, vec_capacity, refl, sym, ap, subst, ◌∙◌, arith}
use Rattle.std.proofs.lemmas.List.{length-set}
use Rattle.lv_clauses.specs.Literals.{same_var}
use Rattle.lv_clauses.specs.ClauseMap.{Slots}
use Rattle.lv_clauses.specs.Marks.{Marks, is_marked}
use Rattle.lv_ltms.specs.declared.labels.Link.{Link}
use Rattle.lv_ltms.specs.Trail.{IsDerivation}
use Rattle.lv_ltms.specs.Revising.{IsShaken, AreMarked, AreFixed}
use Rattle.lv_ltms.specs.System.{System, Retracts}
use Rattle.lv_ltms.proofs.KeepLemmas.{alive_of, kept_of}
use Rattle.lv_ltms.proofs.LabelLemmas.{has_not_free}
use Rattle.lv_ltms.proofs.ShakenLemmas.{shaken_retract, has_unset, place_within}
use Rattle.lv_ltms.proofs.StayLemmas.{keeps_reasons, without_retract}
use Rattle.lv_ltms.proofs.ltms.Ltms.retract.Goals as goal

pub revise-requires-clause-alive : goal.revise-requires-clause-alive
revise-requires-clause-alive c = alive_of c.self.inside.network c.self.invariant

pub revise-requires-clause-place : goal.revise-requires-clause-place
revise-requires-clause-place c = omega (arith, c.place_of-from.ensures, place_within (λ (k : Link). same_var k.lit c.args.lit) c.self.inside.network.labels.trail)

pub revise-requires-clause-shaken : goal.revise-requires-clause-shaken
revise-requires-clause-shaken c =
    subst (IsShaken (is_marked c.as_slice.result.now) c.self.inside.network.arena c.self.inside.network.labels.trail) (sym c.place_of-from.ensures)
    (shaken_retract c.self.invariant c.args.lit c.as_slice.result.now (c.as_slice.ensures.value ∙ c.unmark.ensures))

pub revise-requires-clause-marked : goal.revise-requires-clause-marked
revise-requires-clause-marked c =
    subst (λ (m : Marks). AreFixed (is_marked m) c.self.inside.network.labels) (sym (c.as_slice.ensures.value ∙ c.unmark.ensures))
    (record { fixed = λ l e. has_not_free c.self.inside.network.labels.marks l (c.self.invariant.assumptions.marked l (has_unset c.self.inside.assumed.items c.args.lit.var.0 l e)) })

pub revise-requires-clause-straight : goal.revise-requires-clause-straight
revise-requires-clause-straight c =
    λ same.
    subst (λ (m : Marks). AreMarked (is_marked m) c.self.inside.network.labels) (sym (c.as_slice.ensures.value ∙ c.unmark.ensures))
    (record { marked = λ l e. c.self.invariant.assumptions.marked l (has_unset c.self.inside.assumed.items c.args.lit.var.0 l e) })

pub revise-requires-clause-room : goal.revise-requires-clause-room
revise-requires-clause-room c = omega (arith, c.self.invariant.room, c.self.invariant.network.are_labels.marks)

pub invariant_of-self : goal.invariant_of-self
invariant_of-self c =
    kept_of c.revise.new.self c.self.inside.bools c.unmark.new.marks.items (vec_capacity c.revise.new.self.fallen) c.revise.ensures.rested
    (c.revise.ensures.marks ∙ c.self.invariant.network.are_labels.marks) (ap (λ (m : Marks). length m) c.unmark.ensures ∙ length-set c.self.inside.assumed.items c.args.lit.var.0 None ∙ c.self.invariant.assumed)
    (subst (λ (a : Slots). IsDerivation a (is_marked c.unmark.new.marks.items) c.revise.new.self.labels.trail) (sym c.revise.ensures.arena)
    (subst (λ (m : Marks). IsDerivation c.self.inside.network.arena (is_marked m) c.revise.new.self.labels.trail) c.as_slice.ensures.value c.revise.ensures.derivation))
    (subst (λ (m : Marks). AreMarked (is_marked m) c.revise.new.self.labels) c.as_slice.ensures.value c.revise.ensures.marked)
    (omega (arith, c.self.invariant.room, c.revise.ensures.room))

pub returns : goal.returns
returns c =
    let was : System =
    record { bools = c.self.inside.bools; clauses = c.self.inside.network.arena; assumed = c.self.inside.assumed.items; trail = c.self.inside.network.labels.trail } in
    let is : System =
    record { bools = c.self.inside.bools; clauses = c.revise.new.self.arena; assumed = c.unmark.new.marks.items; trail = c.revise.new.self.labels.trail } in
    let assumed : is_marked was.assumed c.args.lit ≡ true = subst (λ (s : System). is_marked s.assumed c.args.lit ≡ true) (sym c.self.view_is) c.requires in
    subst (λ (s : System). Retracts s is c.args.lit) c.self.view_is
    (record {
      bools = refl;
      clauses = c.revise.ensures.arena;
      changed = c.unmark.ensures;
      reasons =
          λ calm.
          keeps_reasons was is c.args.lit c.self.inside.network.labels c.revise.new.self.labels refl refl c.self.invariant.network.are_labels.agrees c.revise.ensures.rested.alive.network.are_labels.agrees
          (c.revise.ensures.stays c.args.lit
          (without_retract c.self.invariant c.args.lit c.as_slice.result.now assumed (c.as_slice.ensures.value ∙ c.unmark.ensures)));
    })
