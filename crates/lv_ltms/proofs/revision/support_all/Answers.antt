-- one boolean fewer waits
use Rattle.std.proofs.Common.{◌+◌, get_or, drop, length, false, List, subst, arith}
use Rattle.std.proofs.lemmas.List.{drop_more, drop_all}
use Rattle.lv_base.specs.declared.ids.Lit.{Lit}
use Rattle.lv_clauses.specs.Marks.{is_marked}
use Rattle.lv_ltms.specs.Watching.{lit_at, AreSettled}
use Rattle.lv_ltms.proofs.SupportLemmas.{first_waits, IsSupporting, supporting_start, supporting_end, both_supported}
use Rattle.lv_ltms.proofs.revision.support_all.Goals as goal

abbrev blank : Lit
blank = record { var = record { 0 = 0 }; sign = false }

pub loop-lit-init : goal.loop-lit-init
loop-lit-init c = supporting_start (is_marked c.args.grounds.assumed.now) c.args.grounds.near.now c.args.grounds.far.now c.args.both c.args.labels.now c.args.fallen.now (length c.args.labels.now.marks) c.requires.labels c.requires.against c.requires.marked

pub loop-lit-preserved : goal.loop-lit-preserved
loop-lit-preserved c =
    both_supported (is_marked c.args.grounds.assumed.now) c.args.grounds.near.now c.args.grounds.far.now c.args.both c.args.labels.now c.args.fallen.now c.loop-lit.labels c.support.new.labels c.support_negation.new.labels (get_or c.args.fallen.now c.loop-lit.lit-index blank) (drop (c.loop-lit.lit-index + 1) c.args.fallen.now)
    (subst (λ (w : List Lit). IsSupporting (is_marked c.args.grounds.assumed.now) c.args.grounds.near.now c.args.grounds.far.now c.args.both c.args.labels.now c.args.fallen.now w c.loop-lit.labels) (drop_more c.args.fallen.now c.loop-lit.lit-index blank c.loop-lit-test.true) c.loop-lit.invariant)
    c.support.ensures
    (c.support_negation.ensures c.args.fallen.now c.requires.upright
    (c.loop-lit.invariant.among (get_or c.args.fallen.now c.loop-lit.lit-index blank)
    (first_waits c.args.fallen.now c.loop-lit.lit-index blank c.loop-lit-test.true)))

pub returns-clause-marked : goal.returns-clause-marked
returns-clause-marked c =
    supporting_end (is_marked c.args.grounds.assumed.now) c.args.grounds.near.now c.args.grounds.far.now c.args.both c.args.labels.now c.args.fallen.now (drop c.loop-lit.lit-index c.args.fallen.now) c.loop-lit.labels (drop_all c.loop-lit.lit-index c.args.fallen.now (omega (arith, c.loop-lit-test.false))) c.loop-lit.invariant

pub returns-clause-derivation : goal.returns-clause-derivation
returns-clause-derivation c = λ slots bools truth marks threaded guarded d. c.loop-lit.invariant.derivation slots bools truth marks c.args.fallen.now threaded guarded d

pub returns-clause-settled : goal.returns-clause-settled
returns-clause-settled c =
    λ slots bools threaded none settled.
    subst (AreSettled slots (lit_at c.args.grounds.near.now) (lit_at c.args.grounds.far.now) c.loop-lit.labels.marks) (drop_all c.loop-lit.lit-index c.args.fallen.now (omega (arith, c.loop-lit-test.false)))
    (c.loop-lit.invariant.settled slots bools threaded none settled)
