-- the clause is watched, and what follows is propagated
use Rattle.std.proofs.Common.{◌≤◌, ℕ, length, vec_capacity, sym, ap, subst, ◌∙◌, IsTrue}
use Rattle.lv_clauses.specs.Literals.{is_clause}
use Rattle.lv_clauses.specs.ClauseMap.{Slots}
use Rattle.lv_clauses.specs.Marks.{is_marked}
use Rattle.lv_ltms.specs.declared.propagation.Progress.{Progress}
use Rattle.lv_ltms.specs.Trail.{IsDerivation}
use Rattle.lv_ltms.specs.Labelled.{Labelled}
use Rattle.lv_ltms.specs.Standing.{Stops}
use Rattle.lv_ltms.specs.Revising.{AreMarked}
use Rattle.lv_ltms.specs.System.{System}
use Rattle.lv_ltms.proofs.KeepLemmas.{alive_of, kept_of, derivation_added}
use Rattle.lv_ltms.proofs.ltms.Ltms.add_clause.Goals as goal

pub add-requires-clause-alive : goal.add-requires-clause-alive
add-requires-clause-alive c = alive_of c.self.inside.network c.self.invariant

pub add-requires-clause-clause : goal.add-requires-clause-clause
add-requires-clause-clause c =
    subst (λ (n : ℕ). IsTrue (is_clause n c.args.lits.now)) (sym c.self.invariant.network.are_labels.marks) (subst (λ (s : System). IsTrue (is_clause s.bools c.args.lits.now)) (sym c.self.view_is) c.requires)

pub invariant_of-self : goal.invariant_of-self
invariant_of-self c =
    kept_of c.add.new.self c.self.inside.bools c.self.inside.assumed.items (vec_capacity c.add.new.self.fallen)
    (record {
      alive = c.in_err-id.ensures.alive;
      stops =
          subst (λ (a : Slots). Stops a c.add.new.self.labels c.add.new.self.progress.done c.add.new.self.progress.conflict) (sym c.in_err-id.ensures.kept.arena)
          (subst (λ (x : Labelled). Stops c.self.inside.network.arena x c.add.new.self.progress.done c.add.new.self.progress.conflict) (sym c.in_err-id.ensures.kept.labels)
          (subst (λ (p : Progress). Stops c.self.inside.network.arena c.self.inside.network.labels p.done p.conflict) (sym c.in_err-id.ensures.kept.progress) c.self.invariant.stops));
    })
    (ap (λ (x : Labelled). length x.marks) c.in_err-id.ensures.kept.labels ∙ c.self.invariant.network.are_labels.marks) c.self.invariant.assumed
    (subst (λ (a : Slots). IsDerivation a (is_marked c.self.inside.assumed.items) c.add.new.self.labels.trail) (sym c.in_err-id.ensures.kept.arena)
    (subst (λ (x : Labelled). IsDerivation c.self.inside.network.arena (is_marked c.self.inside.assumed.items) x.trail) (sym c.in_err-id.ensures.kept.labels) c.self.invariant.derivation))
    (subst (AreMarked (is_marked c.self.inside.assumed.items)) (sym c.in_err-id.ensures.kept.labels) c.self.invariant.assumptions)
    (subst (λ (n : ℕ). c.self.inside.bools ≤ n) (sym c.in_err-id.ensures.room) c.self.invariant.room)

pub propagate-requires : goal.propagate-requires
propagate-requires c = c.in_ok-id.ensures.alive

pub invariant_of-self-2 : goal.invariant_of-self-2
invariant_of-self-2 c =
    kept_of c.propagate.new.self c.self.inside.bools c.self.inside.assumed.items (vec_capacity c.propagate.new.self.fallen) c.propagate.ensures.rested
    (c.propagate.ensures.goes_on.grows.marks ∙ c.in_ok-id.ensures.goes_on.grows.marks ∙ c.self.invariant.network.are_labels.marks) c.self.invariant.assumed
    (subst (λ (a : Slots). IsDerivation a (is_marked c.self.inside.assumed.items) c.propagate.new.self.labels.trail) (sym c.propagate.ensures.arena)
    (c.propagate.ensures.goes_on.derivation (is_marked c.self.inside.assumed.items)
    (c.in_ok-id.ensures.goes_on.derivation (is_marked c.self.inside.assumed.items)
    (derivation_added c.self.inside.network.arena c.add.new.self.arena c.in_ok-id.id.0 c.args.lits.now (is_marked c.self.inside.assumed.items) c.self.inside.network.labels.trail c.in_ok-id.ensures.vacant c.in_ok-id.ensures.added c.self.invariant.derivation))))
    (record { marked = λ l e. c.propagate.ensures.goes_on.grows.kept l (c.in_ok-id.ensures.goes_on.grows.kept l (c.self.invariant.assumptions.marked l e)) })
    (subst (λ (n : ℕ). c.self.inside.bools ≤ n) (sym (c.propagate.ensures.room ∙ c.in_ok-id.ensures.room)) c.self.invariant.room)
