-- one block more
use Rattle.std.proofs.Common.{◌∙◌}
use Rattle.lv_cert_recovery.proofs.BlockLemmas.{blocks_more}
use Rattle.lv_cert_recovery.proofs.excluding.push_blocks.Goals as goal

pub loop-conflict-preserved : goal.loop-conflict-preserved
loop-conflict-preserved c =
    record {
      all =
          blocks_more c.args.asking.now.plant c.args.asking.now.aim c.args.kept.now c.loop-conflict.conflict-index c.conflict-item.result c.loop-conflict-test.true c.conflict-item.is c.args.lines.now.items
          c.loop-conflict.lines.items c.push_block.new.lines.items c.loop-conflict.invariant.all c.in_ok-push_block.ensures.told;
      kept = c.push_block.ensures.kept ∙ c.loop-conflict.invariant.kept;
    }
