-- the step at hand follows or is the first that doesn't; what comes before that is true
use Rattle.std.proofs.Common.{◌≡◌, Bool, true, false, Option, Some, None, sym, ap, ◌∙◌, arith, if◌then◌else◌, length}
use Rattle.std.proofs.lemmas.List.{length-replicate}
use Rattle.lv_clauses.specs.Marks.{Marks, nothing}
use Rattle.lv_clauses.proofs.SoundLemmas.{step_at, checked, none_left}
use Rattle.lv_refcheck.proofs.pass.check.Goals as goal

if_not : {X : Type 0} (b : Bool) (x y : X) → b ≡ false → (if b then x else y) ≡ y
if_not b x y e = rw e

if_so : {X : Type 0} (b : Bool) (x y : X) → b ≡ true → (if b then x else y) ≡ x
if_so b x y e = rw e

pub returns-then-not-branch-clause-first : goal.returns-then-not-branch-clause-first
returns-then-not-branch-clause-first c =
    sym (if_not c.in_ok-follows.field-0 _ _ c.if-not-branch.true)
    ∙ sym (step_at c.args.set.now c.args.log.now c.loop-place.place c.in_ok-follows.field-0 (omega arith) c.in_ok-follows.ensures.follows)
    ∙ c.loop-place.invariant.rest

pub returns-then-not-branch-clause-sound : goal.returns-then-not-branch-clause-sound
returns-then-not-branch-clause-sound c = checked c.args.set.now c.args.log.now (Some c.loop-place.place) (returns-then-not-branch-clause-first c)

pub loop-place-preserved : goal.loop-place-preserved
loop-place-preserved c =
    record {
      rest =
          sym (if_so c.in_ok-follows.field-0 _ _ c.if-not-branch.false)
          ∙ sym (step_at c.args.set.now c.args.log.now c.loop-place.place c.in_ok-follows.field-0 (omega arith) c.in_ok-follows.ensures.follows)
          ∙ c.loop-place.invariant.rest;
      blank = c.clear.ensures ∙ ap (λ n. nothing n) (c.in_ok-follows.ensures.len ∙ ap (λ (m : Marks). length m) c.loop-place.invariant.blank ∙ length-replicate {A = Option Bool} c.args.set.now.bools None);
    }

pub returns-clause-first : goal.returns-clause-first
returns-clause-first c = sym (none_left c.args.set.now c.args.log.now c.loop-place.place (omega arith)) ∙ c.loop-place.invariant.rest

pub returns-clause-sound : goal.returns-clause-sound
returns-clause-sound c = checked c.args.set.now c.args.log.now None (returns-clause-first c)
