-- one pair more
use Rattle.std.proofs.Common.{◌+◌, drop, get_or, ap}
use Rattle.std.proofs.lemmas.List.{drop_more, drop_all}
use Rattle.std.proofs.lemmas.List.Sums.{AllPass-from_list_all}
use Rattle.lv_model.specs.Lists.{controls}
use Rattle.lv_meaning.specs.Recovers.{has_controls}
use Rattle.lv_reconf.specs.Assuming.{pair_fits}
use Rattle.lv_reconf.proofs.AssumingLemmas.{control_more, assumes_end}
use Rattle.lv_reconf.proofs.MarkLemmas.{adds_control}
use Rattle.lv_reconf.proofs.assumptions.assume_controls.Goals as goal

pub assume_control-requires-clause-fits : goal.assume_control-requires-clause-fits
assume_control-requires-clause-fits c =
    AllPass-from_list_all (pair_fits c.args.compiled.now) c.args.pairs.now c.requires.fit c.loop-pair.pair-index (record { slot = 0; choice = 0 }) c.loop-pair-test.true

pub loop-pair-preserved : goal.loop-pair-preserved
loop-pair-preserved c =
    let ps = c.args.pairs.now in
    let i = c.loop-pair.pair-index in
    record {
      so_far = control_more c.args.compiled.now c.args.lits.now.items c.loop-pair.lits.items c.assume_control.new.lits.items (get_or ps i (record { slot = 0; choice = 0 })) (drop i ps) (drop (i + 1) ps) ps
          (drop_more ps i (record { slot = 0; choice = 0 }) c.loop-pair-test.true) c.loop-pair.invariant.so_far c.in_ok-assume_control.ensures.says;
      adds = adds_control c.args.compiled.now c.args.lits.now.items c.loop-pair.lits.items c.assume_control.new.lits.items ps i (record { slot = 0; choice = 0 }) c.loop-pair-test.true c.loop-pair.invariant.adds c.in_ok-assume_control.ensures.adds;
    }

pub returns-clause-says : goal.returns-clause-says
returns-clause-says c =
    assumes_end c.args.compiled.now c.args.lits.now.items c.loop-pair.lits.items (λ a. has_controls (controls c.args.compiled.now) a (drop c.loop-pair.pair-index c.args.pairs.now))
    (λ a. has_controls (controls c.args.compiled.now) a c.args.pairs.now) c.loop-pair.invariant.so_far
    (λ a. ap (has_controls (controls c.args.compiled.now) a) (drop_all c.loop-pair.pair-index c.args.pairs.now c.loop-pair-test.false))
