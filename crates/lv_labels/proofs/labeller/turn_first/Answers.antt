-- one by one
use Rattle.std.proofs.Common.{◌<◌, length, rules, arith}
use Rattle.std.proofs.lemmas.List.{take_more, drop_more}
use Rattle.lv_labels.proofs.HoldingLemmas.{turned_one}
use Rattle.lv_labels.proofs.labeller.turn_first.Goals as goal

pub loop-at-preserved : goal.loop-at-preserved
loop-at-preserved c =
    let inside : c.loop-at.at < length c.args.before.now = search rules in
    let within : c.loop-at.at < length c.args.now.now = search rules in
    record {
      turned =
          turned_one c.loop-at.at c.args.before.now c.args.now.now _ _ c.args.labels.now c.loop-at.labels c.turn.new.labels inside within
          (drop_more c.args.before.now c.loop-at.at _ inside) (take_more c.args.now.now c.loop-at.at _ within) c.turn.ensures.values c.turn.ensures.modes c.turn.ensures.claiming c.loop-at.invariant.turned;
      before = omega (arith, inside);
      now = omega (arith, within);
    }
