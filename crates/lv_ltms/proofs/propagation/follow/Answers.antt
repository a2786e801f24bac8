-- each clause gone over has its other literal true
use Rattle.std.proofs.Common.{◌≡◌, ℕ, ◌+◌, true, length, Option, refl, sym, ap, subst, ◌∙◌, arith}
use Rattle.lv_base.specs.declared.ids.Lit.{Lit}
use Rattle.lv_base.specs.declared.ids.ClauseId.{ClauseId}
use Rattle.lv_clauses.specs.Literals.{neg}
use Rattle.lv_clauses.specs.ClauseMap.{clause_at, AreClauses}
use Rattle.lv_clauses.specs.Marks.{is_marked}
use Rattle.lv_ltms.specs.Watching.{lit_at}
use Rattle.lv_ltms.specs.Following.{Passes}
use Rattle.lv_ltms.specs.Pairs.{HasBoth}
use Rattle.lv_ltms.proofs.MeetLemmas.{goes_on_self}
use Rattle.lv_ltms.proofs.PairLemmas.{followed_both}
use Rattle.lv_ltms.proofs.ReadLemmas.{IsReading, reading_start, reading_end, reading_over, reading_in, reading_near, reading_far, reading_next}
use Rattle.lv_ltms.proofs.TraverseLemmas.{rows_of_both}
use Rattle.lv_ltms.proofs.VisitLemmas.{goes_on-then}
use Rattle.lv_ltms.proofs.propagation.follow.Goals as goal

pub loop-init : goal.loop-init
loop-init c =
    record {
      reading =
          subst (λ n. IsReading c.args.near.now c.args.lit n 0 c.first-at.result (λ (id : ClauseId). is_marked c.args.labels.now.marks (lit_at c.args.far.now id.0) ≡ true)) (sym c.room-end.ensures)
          (subst (λ (s : Option ClauseId). IsReading c.args.near.now c.args.lit (length c.args.near.now.watches) 0 s (λ (id : ClauseId). is_marked c.args.labels.now.marks (lit_at c.args.far.now id.0) ≡ true)) (sym c.first-at.ensures)
          (reading_start c.args.near.now c.args.far.now c.args.lit (λ (id : ClauseId). is_marked c.args.labels.now.marks (lit_at c.args.far.now id.0) ≡ true)
          (rows_of_both c.args.near.now c.args.far.now c.args.arena.now (length c.args.labels.now.marks) c.requires.network.near_rows c.requires.network.far_rows)));
      goes_on = goes_on_self c.args.arena.now c.args.labels.now (length c.args.labels.now.marks) c.requires.network.are_labels;
    }

pub returns-in_default-clause-follows : goal.returns-in_default-clause-follows
returns-in_default-clause-follows c = reading_end c.loop.invariant.reading c.in_default.is

pub returns-in_default-clause-goes_on : goal.returns-in_default-clause-goes_on
returns-in_default-clause-goes_on c = c.loop.invariant.goes_on

pub lit-requires : goal.lit-requires
lit-requires c =
    reading_far c.loop.invariant.reading c.in-Some.id c.in-Some.is (rows_of_both c.args.near.now c.args.far.now c.args.arena.now (length c.args.labels.now.marks) c.requires.network.near_rows c.requires.network.far_rows)

pub next-at-requires : goal.next-at-requires
next-at-requires c =
    reading_near c.loop.invariant.reading c.in-Some.id c.in-Some.is (rows_of_both c.args.near.now c.args.far.now c.args.arena.now (length c.args.labels.now.marks) c.requires.network.near_rows c.requires.network.far_rows)

pub pass-requires-clause-turned : goal.pass-requires-clause-turned
pass-requires-clause-turned c = c.loop.invariant.goes_on.grows.kept (neg c.args.lit) c.requires.turned

pub pass-requires-clause-clauses : goal.pass-requires-clause-clauses
pass-requires-clause-clauses c = subst (λ (n : ℕ). AreClauses n c.args.arena.now) (sym c.loop.invariant.goes_on.grows.marks) c.requires.network.clauses

pub pass-requires-clause-labels : goal.pass-requires-clause-labels
pass-requires-clause-labels c =
    record {
      marks = refl;
      supports = c.loop.invariant.goes_on.grows.supports ∙ c.requires.network.are_labels.supports ∙ sym c.loop.invariant.goes_on.grows.marks;
      agrees = c.loop.invariant.goes_on.grows.agrees;
    }

pub pass-requires-clause-pair : goal.pass-requires-clause-pair
pass-requires-clause-pair c =
    subst (λ (l : Lit). HasBoth (clause_at c.args.arena.now c.in-Some.id.0) c.args.lit l) (sym c.lit.ensures)
    (followed_both c.args.arena.now (length c.args.labels.now.marks) c.args.near.now c.args.far.now c.args.lit c.in-Some.id c.requires.network.near_rows c.requires.pairs (reading_in c.loop.invariant.reading c.in-Some.id c.in-Some.is))

pub loop-preserved : goal.loop-preserved
loop-preserved c =
    record {
      reading =
          subst (λ (s : Option ClauseId). IsReading c.args.near.now c.args.lit c.room-end.result (c.loop.counter + 1) s (λ (id : ClauseId). is_marked c.pass.new.labels.marks (lit_at c.args.far.now id.0) ≡ true)) (sym c.next-at.ensures)
          (reading_next c.loop.invariant.reading c.in-Some.id c.in-Some.is (λ (id : ClauseId). is_marked c.pass.new.labels.marks (lit_at c.args.far.now id.0) ≡ true)
          (λ i h. c.pass.ensures.goes_on.grows.kept (lit_at c.args.far.now i.0) h)
          (ap (λ (l : Lit). is_marked c.pass.new.labels.marks l) (sym c.lit.ensures) ∙ subst (Passes c.args.arena.now c.pass.new.labels.marks c.in-Some.id c.lit.result) c.in-Holds.is c.pass.ensures.passes));
      goes_on = goes_on-then c.args.arena.now c.args.labels.now c.loop.labels c.pass.new.labels c.loop.invariant.goes_on c.pass.ensures.goes_on;
    }

pub returns-in-Stops-clause-goes_on : goal.returns-in-Stops-clause-goes_on
returns-in-Stops-clause-goes_on c = goes_on-then c.args.arena.now c.args.labels.now c.loop.labels c.pass.new.labels c.loop.invariant.goes_on c.pass.ensures.goes_on

pub returns-in-Fails-clause-goes_on : goal.returns-in-Fails-clause-goes_on
returns-in-Fails-clause-goes_on c = goes_on-then c.args.arena.now c.args.labels.now c.loop.labels c.pass.new.labels c.loop.invariant.goes_on c.pass.ensures.goes_on

pub returns-in-Fails-clause-follows : goal.returns-in-Fails-clause-follows
returns-in-Fails-clause-follows c = subst (Passes c.args.arena.now c.pass.new.labels.marks c.in-Some.id c.lit.result) c.in-Fails.is c.pass.ensures.passes

pub returns-clause-follows : goal.returns-clause-follows
returns-clause-follows c = reading_end c.loop.invariant.reading (reading_over c.loop.invariant.reading (omega (arith, c.loop-test.false)))

pub returns-clause-goes_on : goal.returns-clause-goes_on
returns-clause-goes_on c = c.loop.invariant.goes_on
