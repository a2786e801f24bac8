-- one observation more
use Rattle.std.proofs.Common.{◌+◌, drop, get_or, ap}
use Rattle.std.proofs.lemmas.List.{drop_more, drop_all}
use Rattle.lv_meaning.specs.Facts.{meets}
use Rattle.lv_meaning.specs.declared.facts.Observation.{Observation}
use Rattle.lv_reconf.proofs.NarrowingLemmas.{observe_more, narrows_end}
use Rattle.lv_reconf.proofs.clauses.observe.Goals as goal

pub loop-o-preserved : goal.loop-o-preserved
loop-o-preserved c =
    let os = c.args.present.now in
    let i = c.loop-o.o-index in
    let o : Observation = get_or os i (record { var = record { 0 = 0 }; val = record { 0 = 0 } }) in
    observe_more c.args.compiled.now c.args.solver.now.set c.loop-o.solver.set c.observe_one.new.solver.set o (drop i os) (drop (i + 1) os) os
    (drop_more os i (record { var = record { 0 = 0 }; val = record { 0 = 0 } }) c.loop-o-test.true) c.loop-o.invariant c.in_ok-observe_one.ensures

pub returns : goal.returns
returns c =
    narrows_end c.args.compiled.now c.args.solver.now.set c.loop-o.solver.set (λ a b ms. meets a (drop c.loop-o.o-index c.args.present.now)) (λ a b ms. meets a c.args.present.now) c.loop-o.invariant
    (λ values a b ms code. ap (meets a) (drop_all c.loop-o.o-index c.args.present.now c.loop-o-test.false))
