-- the literal is marked, or its negation's label falls
use Rattle.std.proofs.Common.{◌≡◌, length, Some, true, false, IsTrue, IfSome, vec_capacity, sym, ap, subst, ◌∙◌, arith}
use Rattle.std.proofs.lemmas.List.{length-set}
use Rattle.lv_base.specs.declared.ids.Lit.{Lit}
use Rattle.lv_clauses.specs.Literals.{neg, in_range, same_var}
use Rattle.lv_clauses.specs.ClauseMap.{Slots}
use Rattle.lv_clauses.specs.Marks.{Marks, is_marked, marked, is_free}
use Rattle.lv_ltms.specs.declared.labels.Link.{Link}
use Rattle.lv_ltms.specs.declared.labels.Reason.TheVariants.{Assumed}
use Rattle.lv_ltms.specs.Trail.{IsDerivation}
use Rattle.lv_ltms.specs.Labelled.{Labelled, GoesOn, with_link}
use Rattle.lv_ltms.specs.Standing.{IsNetwork, IsLooked, IsFalsified}
use Rattle.lv_ltms.specs.Revising.{IsShaken, AreFixed}
use Rattle.lv_ltms.specs.System.{System}
use Rattle.lv_ltms.proofs.ShakenLemmas.{shaken_assume, place_within}
use Rattle.lv_ltms.proofs.KeepLemmas.{alive_of, kept_of, assume_within, known_kept, assume_fixed, assume_network, assume_looked, assume_falsified, assume_grows, assume_derivation, assume_marked}
use Rattle.lv_ltms.proofs.ltms.Ltms.assume.Goals as goal

pub invariant_of-self : goal.invariant_of-self
invariant_of-self c =
    let range : IsTrue (in_range c.self.inside.bools c.args.lit) = subst (λ (s : System). IsTrue (in_range s.bools c.args.lit)) (sym c.self.view_is) c.requires.range in
    let free : IsTrue (is_free c.self.inside.assumed.items c.args.lit) = subst (λ (s : System). IsTrue (is_free s.assumed c.args.lit)) (sym c.self.view_is) c.requires.free in
    known_kept c.self.invariant c.args.lit range free (ap (λ (m : Marks). is_marked m c.args.lit) (sym c.marks.ensures) ∙ sym c.if-is_marked.ensures)

pub revise-requires-clause-alive : goal.revise-requires-clause-alive
revise-requires-clause-alive c = alive_of c.self.inside.network c.self.invariant

pub revise-requires-clause-place : goal.revise-requires-clause-place
revise-requires-clause-place c = omega (arith, c.place_of-from.ensures, place_within (λ (k : Link). same_var k.lit c.args.lit) c.self.inside.network.labels.trail)

pub revise-requires-clause-shaken : goal.revise-requires-clause-shaken
revise-requires-clause-shaken c =
    let range : IsTrue (in_range c.self.inside.bools c.args.lit) = subst (λ (s : System). IsTrue (in_range s.bools c.args.lit)) (sym c.self.view_is) c.requires.range in
    let free : IsTrue (is_free c.self.inside.assumed.items c.args.lit) = subst (λ (s : System). IsTrue (is_free s.assumed c.args.lit)) (sym c.self.view_is) c.requires.free in
    subst (IsShaken (is_marked c.as_slice.result.now) c.self.inside.network.arena c.self.inside.network.labels.trail) (sym c.place_of-from.ensures)
    (shaken_assume c.self.invariant c.args.lit (assume_within c.self.invariant c.args.lit range free) free c.as_slice.result.now c.as_slice.ensures.value)

pub revise-requires-clause-marked : goal.revise-requires-clause-marked
revise-requires-clause-marked c =
    let range : IsTrue (in_range c.self.inside.bools c.args.lit) = subst (λ (s : System). IsTrue (in_range s.bools c.args.lit)) (sym c.self.view_is) c.requires.range in
    let free : IsTrue (is_free c.self.inside.assumed.items c.args.lit) = subst (λ (s : System). IsTrue (is_free s.assumed c.args.lit)) (sym c.self.view_is) c.requires.free in
    let q : is_marked c.self.inside.network.labels.marks (neg c.args.lit) ≡ true = ap (λ (m : Marks). is_marked m (neg c.args.lit)) (sym c.marks-2.ensures) ∙ ap (λ (l : Lit). is_marked c.marks-2.result.now l) (sym c.negation.ensures) ∙ sym c.if-is_marked-2.ensures in
    subst (λ (m : Marks). AreFixed (is_marked m) c.self.inside.network.labels) (sym c.as_slice.ensures.value) (assume_fixed c.self.invariant c.args.lit range free q)

pub revise-requires-clause-room : goal.revise-requires-clause-room
revise-requires-clause-room c = omega (arith, c.self.invariant.room, c.self.invariant.network.are_labels.marks)

pub propagate-requires : goal.propagate-requires
propagate-requires c =
    let range : IsTrue (in_range c.self.inside.bools c.args.lit) = subst (λ (s : System). IsTrue (in_range s.bools c.args.lit)) (sym c.self.view_is) c.requires.range in
    let free : IsTrue (is_free c.self.inside.assumed.items c.args.lit) = subst (λ (s : System). IsTrue (is_free s.assumed c.args.lit)) (sym c.self.view_is) c.requires.free in
    let p : is_marked c.self.inside.network.labels.marks c.args.lit ≡ false = ap (λ (m : Marks). is_marked m c.args.lit) (sym c.marks.ensures) ∙ sym c.if-is_marked.ensures in
    let q : is_marked c.self.inside.network.labels.marks (neg c.args.lit) ≡ false = ap (λ (m : Marks). is_marked m (neg c.args.lit)) (sym c.marks-2.ensures) ∙ ap (λ (l : Lit). is_marked c.marks-2.result.now l) (sym c.negation.ensures) ∙ sym c.if-is_marked-2.ensures in
    record {
      network = subst (λ (x : Labelled). IsNetwork (length x.marks) c.self.inside.network.arena c.self.inside.network.near c.self.inside.network.far x) (sym c.push.ensures) (assume_network c.self.invariant c.args.lit range free p q);
      looked = subst (λ (x : Labelled). IsLooked c.self.inside.network.arena c.self.inside.network.near c.self.inside.network.far x c.self.inside.network.progress.done) (sym c.push.ensures) (assume_looked c.self.invariant c.args.lit range free p q);
      falsified = subst (λ (x : Labelled). IfSome c.self.inside.network.progress.conflict (λ id. IsFalsified c.self.inside.network.arena x.marks id.0)) (sym c.push.ensures) (assume_falsified c.self.invariant c.args.lit range free p q);
      tells_empty = c.self.invariant.tells_empty;
    }

pub invariant_of-self-2 : goal.invariant_of-self-2
invariant_of-self-2 c =
    let range : IsTrue (in_range c.self.inside.bools c.args.lit) = subst (λ (s : System). IsTrue (in_range s.bools c.args.lit)) (sym c.self.view_is) c.requires.range in
    let free : IsTrue (is_free c.self.inside.assumed.items c.args.lit) = subst (λ (s : System). IsTrue (is_free s.assumed c.args.lit)) (sym c.self.view_is) c.requires.free in
    let p : is_marked c.self.inside.network.labels.marks c.args.lit ≡ false = ap (λ (m : Marks). is_marked m c.args.lit) (sym c.marks.ensures) ∙ sym c.if-is_marked.ensures in
    let q : is_marked c.self.inside.network.labels.marks (neg c.args.lit) ≡ false = ap (λ (m : Marks). is_marked m (neg c.args.lit)) (sym c.marks-2.ensures) ∙ ap (λ (l : Lit). is_marked c.marks-2.result.now l) (sym c.negation.ensures) ∙ sym c.if-is_marked-2.ensures in
    let goes : GoesOn c.self.inside.network.arena (with_link c.self.inside.network.labels (record { lit = c.args.lit; reason = Assumed })) c.propagate.new.self.labels =
    subst (λ (x : Labelled). GoesOn c.self.inside.network.arena x c.propagate.new.self.labels) c.push.ensures c.propagate.ensures.goes_on in
    kept_of c.propagate.new.self c.self.inside.bools (marked c.self.inside.assumed.items c.args.lit) (vec_capacity c.propagate.new.self.fallen) c.propagate.ensures.rested
    (goes.grows.marks ∙ (assume_grows c.self.invariant c.args.lit range free p q).marks ∙ c.self.invariant.network.are_labels.marks) (length-set c.self.inside.assumed.items c.args.lit.var.0 (Some c.args.lit.sign) ∙ c.self.invariant.assumed)
    (subst (λ (a : Slots). IsDerivation a (is_marked (marked c.self.inside.assumed.items c.args.lit)) c.propagate.new.self.labels.trail) (sym c.propagate.ensures.arena)
    (assume_derivation c.self.invariant c.args.lit range free p q c.propagate.new.self.labels goes))
    (assume_marked c.self.invariant c.args.lit range free p q c.propagate.new.self.labels goes)
    (omega (arith, c.self.invariant.room, c.propagate.ensures.room))
