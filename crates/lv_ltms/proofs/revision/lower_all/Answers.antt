-- one more on both sides
use Rattle.std.proofs.Common.{false, List, subst, arith}
use Rattle.std.proofs.lemmas.List.{take_all}
use Rattle.lv_base.specs.declared.ids.Lit.{Lit}
use Rattle.lv_ltms.proofs.ReadLemmas.{IsCleared, cleared_none, cleared_more}
use Rattle.lv_ltms.proofs.revision.lower_all.Goals as goal

abbrev blank : Lit
blank = record { var = record { 0 = 0 }; sign = false }

pub loop-lit-init : goal.loop-lit-init
loop-lit-init c = record { cleared = cleared_none c.args.near.now c.args.far.now c.args.labels.now.trail c.args.done; less = omega arith }

pub loop-lit-preserved : goal.loop-lit-preserved
loop-lit-preserved c =
    record {
      cleared =
          cleared_more c.args.near.now c.args.far.now c.args.labels.now.trail c.args.fallen.now c.loop-lit.lit-index blank c.loop-lit.looked c.lower-near_done.result c.lower-looked.result c.loop-lit-test.true c.loop-lit.invariant.cleared
          c.lower-near_done.ensures.within c.lower-looked.ensures.within c.lower-near_done.ensures.clear c.lower-looked.ensures.clear;
      less = omega (arith, c.lower-near_done.ensures.within, c.lower-looked.ensures.within, c.loop-lit.invariant.less);
    }

pub returns-clause-near : goal.returns-clause-near
returns-clause-near c =
    (subst (λ (ls : List Lit). IsCleared c.args.near.now c.args.far.now c.args.labels.now.trail ls c.loop-lit.looked) (take_all c.loop-lit.lit-index c.args.fallen.now (omega (arith, c.loop-lit-test.false))) c.loop-lit.invariant.cleared).near_clear

pub returns-clause-far : goal.returns-clause-far
returns-clause-far c =
    (subst (λ (ls : List Lit). IsCleared c.args.near.now c.args.far.now c.args.labels.now.trail ls c.loop-lit.looked) (take_all c.loop-lit.lit-index c.args.fallen.now (omega (arith, c.loop-lit-test.false))) c.loop-lit.invariant.cleared).far_clear

pub returns-clause-within : goal.returns-clause-within
returns-clause-within c = c.loop-lit.invariant.less
