-- the first that does is found
use Rattle.std.proofs.Common.{◌≡◌, ◌≢◌, ◌+◌, false, length, Option, sym, ap, subst, ◌∙◌, arith}
use Rattle.lv_base.specs.declared.ids.Lit.{Lit}
use Rattle.lv_base.specs.declared.ids.ClauseId.{ClauseId}
use Rattle.lv_ltms.specs.Trail.{same_lit}
use Rattle.lv_ltms.specs.Watching.{lit_at}
use Rattle.lv_ltms.proofs.CountLemmas.{same_lit-self}
use Rattle.lv_ltms.proofs.TrailLemmas.{same_lit-equal}
use Rattle.lv_ltms.proofs.ReadLemmas.{IsReading, reading_start, reading_end, reading_over, reading_in, reading_near, reading_far, reading_next}
use Rattle.lv_ltms.proofs.revision.find_unit.Goals as goal

pub loop-init : goal.loop-init
loop-init c =
    subst (λ n. IsReading c.args.near.now c.args.lit n 0 c.first-at.result (λ (id : ClauseId). lit_at c.args.far.now id.0 ≢ c.args.lit)) (sym c.room-end.ensures)
    (subst (λ (s : Option ClauseId). IsReading c.args.near.now c.args.lit (length c.args.near.now.watches) 0 s (λ (id : ClauseId). lit_at c.args.far.now id.0 ≢ c.args.lit)) (sym c.first-at.ensures)
    (reading_start c.args.near.now c.args.far.now c.args.lit (λ (id : ClauseId). lit_at c.args.far.now id.0 ≢ c.args.lit) c.requires))

pub returns-in_default-clause-none : goal.returns-in_default-clause-none
returns-in_default-clause-none c = reading_end c.loop.invariant c.in_default.is

pub is_watch-requires : goal.is_watch-requires
is_watch-requires c = reading_far c.loop.invariant c.in-Some.id c.in-Some.is c.requires

pub returns-then-is_watch-clause-some : goal.returns-then-is_watch-clause-some
returns-then-is_watch-clause-some c = reading_in c.loop.invariant c.in-Some.id c.in-Some.is

pub returns-then-is_watch-clause-unit : goal.returns-then-is_watch-clause-unit
returns-then-is_watch-clause-unit c = same_lit-equal (lit_at c.args.far.now c.in-Some.id.0) c.args.lit (sym c.is_watch.ensures ∙ c.if-is_watch.true)

pub next-at-requires : goal.next-at-requires
next-at-requires c = reading_near c.loop.invariant c.in-Some.id c.in-Some.is c.requires

pub loop-preserved : goal.loop-preserved
loop-preserved c =
    let apart : same_lit (lit_at c.args.far.now c.in-Some.id.0) c.args.lit ≡ false = sym c.is_watch.ensures ∙ c.if-is_watch.false in
    subst (λ (s : Option ClauseId). IsReading c.args.near.now c.args.lit c.room-end.result (c.loop.counter + 1) s (λ (id : ClauseId). lit_at c.args.far.now id.0 ≢ c.args.lit)) (sym c.next-at.ensures)
    (reading_next c.loop.invariant c.in-Some.id c.in-Some.is (λ (id : ClauseId). lit_at c.args.far.now id.0 ≢ c.args.lit) (λ i h. h) (λ e. absurd (cc (ap (λ (l : Lit). same_lit l c.args.lit) e, same_lit-self c.args.lit, apart))))

pub returns-clause-none : goal.returns-clause-none
returns-clause-none c = reading_end c.loop.invariant (reading_over c.loop.invariant (omega (arith, c.loop-test.false)))
