-- the clause goes out of the lists, and what it supported falls
use Rattle.std.proofs.Common.{◌≡◌, ℕ, List, length, position, unwrap_or, vec_capacity, IsSome, sym, ap, subst, ◌∙◌, arith}
use Rattle.lv_clauses.specs.ClauseMap.{Slots, clause_at}
use Rattle.lv_clauses.specs.Marks.{Marks, is_marked}
use Rattle.lv_ltms.specs.declared.labels.Link.{Link}
use Rattle.lv_ltms.specs.Trail.{IsDerivation}
use Rattle.lv_ltms.specs.Labelled.{Labelled, gives}
use Rattle.lv_ltms.specs.Revising.{IsShaken, AreFixed, AreMarked}
use Rattle.lv_ltms.specs.System.{System}
use Rattle.lv_ltms.proofs.KeepLemmas.{alive_of, kept_of, fixed_of}
use Rattle.lv_ltms.proofs.ShakenLemmas.{shaken_drop, place_within}
use Rattle.lv_ltms.proofs.ltms.Ltms.drop_clause.Goals as goal

pub remove-requires-clause-alive : goal.remove-requires-clause-alive
remove-requires-clause-alive c = alive_of c.self.inside.network c.self.invariant

pub remove-requires-clause-present : goal.remove-requires-clause-present
remove-requires-clause-present c = subst (λ (s : System). IsSome (clause_at s.clauses c.args.id.0)) (sym c.self.view_is) c.requires

pub revise-requires-clause-alive : goal.revise-requires-clause-alive
revise-requires-clause-alive c = c.remove.ensures.alive

pub revise-requires-clause-place : goal.revise-requires-clause-place
revise-requires-clause-place c =
    let place : c.unwrap_or-from.result ≡ unwrap_or (position (gives c.args.id) c.self.inside.network.labels.trail) (length c.self.inside.network.labels.trail) =
    c.unwrap_or-from.ensures
    ∙ ap (λ o. unwrap_or o (length c.trail-trail.result.now)) c.first_given.ensures
    ∙ ap (λ (t : List Link). unwrap_or (position (gives c.args.id) t) (length t)) c.trail-trail.ensures in
    omega (arith, place, place_within (gives c.args.id) c.self.inside.network.labels.trail, ap (λ (x : Labelled). length x.trail) c.remove.ensures.labels)

pub revise-requires-clause-shaken : goal.revise-requires-clause-shaken
revise-requires-clause-shaken c =
    let place : c.unwrap_or-from.result ≡ unwrap_or (position (gives c.args.id) c.self.inside.network.labels.trail) (length c.self.inside.network.labels.trail) =
    c.unwrap_or-from.ensures
    ∙ ap (λ o. unwrap_or o (length c.trail-trail.result.now)) c.first_given.ensures
    ∙ ap (λ (t : List Link). unwrap_or (position (gives c.args.id) t) (length t)) c.trail-trail.ensures in
    subst (λ (x : Labelled). IsShaken (is_marked c.as_slice.result.now) c.remove.new.self.arena x.trail c.unwrap_or-from.result) (sym c.remove.ensures.labels)
    (subst (λ (n : ℕ). IsShaken (is_marked c.as_slice.result.now) c.remove.new.self.arena c.self.inside.network.labels.trail n) (sym place)
    (subst (λ (m : Marks). IsShaken (is_marked m) c.remove.new.self.arena c.self.inside.network.labels.trail (unwrap_or (position (gives c.args.id) c.self.inside.network.labels.trail) (length c.self.inside.network.labels.trail))) (sym c.as_slice.ensures.value)
    (shaken_drop c.self.invariant c.args.id c.remove.new.self.arena c.remove.ensures.removed.changed c.remove.ensures.removed.others)))

pub revise-requires-clause-marked : goal.revise-requires-clause-marked
revise-requires-clause-marked c =
    subst (AreFixed (is_marked c.as_slice.result.now)) (sym c.remove.ensures.labels)
    (subst (λ (m : Marks). AreFixed (is_marked m) c.self.inside.network.labels) (sym c.as_slice.ensures.value) (fixed_of c.self.inside.assumed.items c.self.inside.network.labels c.self.invariant.assumptions))

pub revise-requires-clause-straight : goal.revise-requires-clause-straight
revise-requires-clause-straight c =
    λ same.
    subst (AreMarked (is_marked c.as_slice.result.now)) (sym c.remove.ensures.labels)
    (subst (λ (m : Marks). AreMarked (is_marked m) c.self.inside.network.labels) (sym c.as_slice.ensures.value) c.self.invariant.assumptions)

pub revise-requires-clause-room : goal.revise-requires-clause-room
revise-requires-clause-room c = omega (arith, c.self.invariant.room, c.remove.ensures.room, c.self.invariant.network.are_labels.marks, ap (λ (x : Labelled). length x.marks) c.remove.ensures.labels)

pub invariant_of-self : goal.invariant_of-self
invariant_of-self c =
    kept_of c.revise.new.self c.self.inside.bools c.self.inside.assumed.items (vec_capacity c.revise.new.self.fallen) c.revise.ensures.rested
    (c.revise.ensures.marks ∙ ap (λ (x : Labelled). length x.marks) c.remove.ensures.labels ∙ c.self.invariant.network.are_labels.marks) c.self.invariant.assumed
    (subst (λ (a : Slots). IsDerivation a (is_marked c.self.inside.assumed.items) c.revise.new.self.labels.trail) (sym c.revise.ensures.arena)
    (subst (λ (m : Marks). IsDerivation c.remove.new.self.arena (is_marked m) c.revise.new.self.labels.trail) c.as_slice.ensures.value c.revise.ensures.derivation))
    (subst (λ (m : Marks). AreMarked (is_marked m) c.revise.new.self.labels) c.as_slice.ensures.value c.revise.ensures.marked)
    (omega (arith, c.self.invariant.room, c.remove.ensures.room, c.revise.ensures.room))
