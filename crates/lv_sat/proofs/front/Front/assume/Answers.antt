-- the assumption is true already, or put on; where what it forces makes a clause false, it is taken back
use Rattle.std.proofs.Common.{◌∙◌, ◌++◌, ◌∷◌, [], List, None, length, take, sym, ap, subst}
use Rattle.lv_clauses.specs.Marks.{is_marked}
use Rattle.lv_clauses.specs.declared.log.Step.{Step}
use Rattle.lv_trail.specs.declared.trail.Entry.{Entry}
use Rattle.lv_sat.specs.declared.front.Level.{Level}
use Rattle.lv_trail.specs.Trail.{IsPropagated}
use Rattle.lv_sat.specs.Front.{IsStanding}
use Rattle.lv_sat.proofs.FrontLemmas.{stands_true, stands_open, stands_back, refuted_open}
use Rattle.lv_sat.proofs.front.Front.assume.Goals as goal

pub returns-then-is_marked-clause-standing : goal.returns-then-is_marked-clause-standing
returns-then-is_marked-clause-standing c =
    subst (λ (ls : List Level). IsStanding c.args.set.now ls c.args.self.now.search.trail.marks.items c.args.self.now.search.trail.entries.items)
    (sym (c.in_ok-push.ensures.items ∙ ap (λ (es : List Entry). c.args.self.now.levels.items ++ record { lit = c.args.lit; place = length es } ∷ []) c.entries-place.ensures))
    (stands_true c.args.set.now c.args.self.now.levels.items c.args.self.now.search.trail.marks.items c.args.self.now.search.trail.entries.items c.requires.standing c.args.lit
    (ap (λ m. is_marked m c.args.lit) (sym c.marks.ensures) ∙ sym c.is_marked.ensures ∙ c.if-is_marked.true))

pub returns-in_ok-refute-in-Some-clause-standing : goal.returns-in_ok-refute-in-Some-clause-standing
returns-in_ok-refute-in-Some-clause-standing c =
    stands_back c.args.set.now c.args.self.now.levels.items c.args.self.now.search.trail.marks.items c.args.self.now.search.trail.entries.items c.requires.standing c.args.lit c.take_on.new.self.trail.marks.items c.take_on.new.self.trail.entries.items c.in_ok-hint.field-0
    (subst (λ (steps : List Step). IsPropagated c.args.set.now steps (c.args.self.now.search.trail.entries.items ++ record { lit = c.args.lit; reason = None } ∷ []) c.take_on.new.self.trail.marks.items c.take_on.new.self.trail.entries.items c.in_ok-hint.field-0) c.requires.log c.in_ok-hint.ensures)
    c.take_back.new.self.trail.entries.items c.take_back.new.self.trail.marks.items ((rw (c.refute.ensures.kept) at c.take_back.ensures.entries) ∙ ap (λ (es : List Entry). take (length es) c.take_on.new.self.trail.entries.items) c.entries-place.ensures) (rw (c.refute.ensures.kept) at c.take_back.ensures.trail c.args.set.now [])

pub returns-in_ok-refute-in-Some-clause-told : goal.returns-in_ok-refute-in-Some-clause-told
returns-in_ok-refute-in-Some-clause-told c =
    refuted_open c.args.set.now c.args.self.now.levels.items c.args.self.now.search.trail.marks.items c.args.self.now.search.trail.entries.items c.requires.standing c.args.lit c.take_on.new.self.trail.marks.items c.take_on.new.self.trail.entries.items c.in_ok-hint.field-0
    (subst (λ (steps : List Step). IsPropagated c.args.set.now steps (c.args.self.now.search.trail.entries.items ++ record { lit = c.args.lit; reason = None } ∷ []) c.take_on.new.self.trail.marks.items c.take_on.new.self.trail.entries.items c.in_ok-hint.field-0) c.requires.log c.in_ok-hint.ensures)
    c.args.log.now c.refute.new.log c.requires.log c.in_ok-refute-in-Some.ensures.derived

pub returns-in_ok-push-in-None-clause-standing : goal.returns-in_ok-push-in-None-clause-standing
returns-in_ok-push-in-None-clause-standing c =
    subst (λ (ls : List Level). IsStanding c.args.set.now ls c.take_on.new.self.trail.marks.items c.take_on.new.self.trail.entries.items)
    (sym (c.in_ok-push-in-None.ensures.items ∙ ap (λ (es : List Entry). c.args.self.now.levels.items ++ record { lit = c.args.lit; place = length es } ∷ []) c.entries-place.ensures))
    (stands_open c.args.set.now c.args.self.now.levels.items c.args.self.now.search.trail.marks.items c.args.self.now.search.trail.entries.items c.requires.standing c.args.lit c.take_on.new.self.trail.marks.items c.take_on.new.self.trail.entries.items c.in_ok-hint.field-0
    (subst (λ (steps : List Step). IsPropagated c.args.set.now steps (c.args.self.now.search.trail.entries.items ++ record { lit = c.args.lit; reason = None } ∷ []) c.take_on.new.self.trail.marks.items c.take_on.new.self.trail.entries.items c.in_ok-hint.field-0) c.requires.log c.in_ok-hint.ensures))
