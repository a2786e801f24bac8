-- each that is lowers the place
use Rattle.std.proofs.Common.{◌≡◌, ◌+◌, false, length, Option, sym, ap, subst, ◌∙◌, arith}
use Rattle.lv_base.specs.declared.ids.Lit.{Lit}
use Rattle.lv_base.specs.declared.ids.ClauseId.{ClauseId}
use Rattle.lv_clauses.specs.Literals.{neg}
use Rattle.lv_ltms.specs.Watching.{lit_at}
use Rattle.lv_ltms.specs.Standing.{true_before}
use Rattle.lv_ltms.proofs.ReadLemmas.{IsReading, reading_start, reading_end, reading_over, reading_near, reading_far, reading_next, not_before_le}
use Rattle.lv_ltms.proofs.revision.lower.Goals as goal

pub loop-init : goal.loop-init
loop-init c =
    record {
      reading =
          subst (λ n. IsReading c.args.near.now c.args.lit n 0 c.first-at.result (λ (id : ClauseId). true_before c.args.done c.args.labels.now.trail (neg (lit_at c.args.far.now id.0)) ≡ false)) (sym c.room-end.ensures)
          (subst (λ (s : Option ClauseId). IsReading c.args.near.now c.args.lit (length c.args.near.now.watches) 0 s (λ (id : ClauseId). true_before c.args.done c.args.labels.now.trail (neg (lit_at c.args.far.now id.0)) ≡ false)) (sym c.first-at.ensures)
          (reading_start c.args.near.now c.args.far.now c.args.lit (λ (id : ClauseId). true_before c.args.done c.args.labels.now.trail (neg (lit_at c.args.far.now id.0)) ≡ false) c.requires.rows));
      less = omega arith;
    }

pub returns-in_default-clause-clear : goal.returns-in_default-clause-clear
returns-in_default-clause-clear c = reading_end c.loop.invariant.reading c.in_default.is

pub returns-in_default-clause-within : goal.returns-in_default-clause-within
returns-in_default-clause-within c = c.loop.invariant.less

pub lit-other-requires : goal.lit-other-requires
lit-other-requires c = reading_far c.loop.invariant.reading c.in-Some.id c.in-Some.is c.requires.rows

pub next-at-requires : goal.next-at-requires
next-at-requires c = reading_near c.loop.invariant.reading c.in-Some.id c.in-Some.is c.requires.rows

pub loop-preserved : goal.loop-preserved
loop-preserved c =
    record {
      reading =
          subst (λ (s : Option ClauseId). IsReading c.args.near.now c.args.lit c.room-end.result (c.loop.counter + 1) s (λ (id : ClauseId). true_before c.before_false-looked.result c.args.labels.now.trail (neg (lit_at c.args.far.now id.0)) ≡ false)) (sym c.next-at.ensures)
          (reading_next c.loop.invariant.reading c.in-Some.id c.in-Some.is (λ (id : ClauseId). true_before c.before_false-looked.result c.args.labels.now.trail (neg (lit_at c.args.far.now id.0)) ≡ false)
          (λ i h. not_before_le c.args.labels.now.trail c.before_false-looked.result c.loop.looked (neg (lit_at c.args.far.now i.0)) c.before_false-looked.ensures.within h)
          (ap (λ (l : Lit). true_before c.before_false-looked.result c.args.labels.now.trail (neg l)) (sym c.lit-other.ensures) ∙ c.before_false-looked.ensures.clear));
      less = omega (arith, c.before_false-looked.ensures.within, c.loop.invariant.less);
    }

pub returns-clause-clear : goal.returns-clause-clear
returns-clause-clear c = reading_end c.loop.invariant.reading (reading_over c.loop.invariant.reading (omega (arith, c.loop-test.false)))

pub returns-clause-within : goal.returns-clause-within
returns-clause-within c = c.loop.invariant.less
